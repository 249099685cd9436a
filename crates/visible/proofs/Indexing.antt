-- The index of an annotation is filled in record by record; and no two records have one pair, since pairs ascend. Assumes nothing.
use Prim.Native.Nat.{ℕ, zero, suc, ◌+◌, ◌≤◌, ◌<◌}
use native.Mathlib.Nat.{le_refl, eq-or-lt_of_le, le_of_suc-le-suc}
use native.Mathlib.Decide.{ℕ_discrete}
use native.Mathlib.Omega.{arith}
use mathlib.Core.Path.{◌≡◌, refl, sym, ap₂, ◌∙◌}
use mathlib.Core.Logic.{⊎_elim}
use mathlib.Core.List.{List}
use lib.ListN.{length, get_or, set, replicate}
use Rattle.std.specs.Prelude.{Option, Some, None}
use lib.Seq.{get_or-set_same, get_or-set_other}
use borrow.Author.Count.{below_more}
use Rattle.reply.specs.Bytes.{Bytes}
use Rattle.tree.specs.Tree.{Label}
use Rattle.query.specs.Table.{Entries}
use Rattle.query.proofs.Tables.{entries_length}
use Rattle.view.specs.Annotation.{records, record_at, Ascends, AboveLast, Annotation}
use Rattle.checks.proofs.Records.{records_length}
use Rattle.visible.specs.Index.{pair_of, HasPair, FirstNamed, Row, none, at, IndexTo, Labelled}

-- two pairs of labels have two places
pair_apart : {p q c d : ℕ} → Label c → Label d → pair_of p c ≡ pair_of q d → (p ≡ q) × (c ≡ d)
pair_apart l m e = (omega arith, omega arith)

-- nothing is something, and what is there is one
pub none_some : {s : ℕ} → ¬ (None ≡ Some s)
none_some e = cc

pub some_one : {r s : ℕ} → Some r ≡ Some s → r ≡ s
some_one e = cc

-- a list of nothing
blanks : (n j : ℕ) → ◌≡◌ {A = Option ℕ} (get_or (replicate n None) j None) None
blanks zero j = refl
blanks (suc n) zero = refl
blanks (suc n) (suc j) = blanks n j

module _ {annotation : Bytes} where
  -- the first record that names a filter is the first that names its own
  pub first_itself : {r s : ℕ} → FirstNamed annotation r s → FirstNamed annotation s s
  first_itself {r} {s} named = record { known = le_refl s; same = refl; first = λ k l e. named.first k l (e ∙ named.same) }

  -- with no record passed, no pair has one
  pub index_none : (size : ℕ) → IndexTo annotation 0 (replicate size None)
  index_none size = record {
    row = λ p c l m. rw (blanks size (pair_of p c)) (none (λ r h. absurd (omega arith)));
    most = λ k r e. absurd (none_some (sym (blanks size k) ∙ e));
  }

  -- record r is put at the place of its pair
  pub index_more : {index : List (Option ℕ)} {p c r s : ℕ} → length index ≡ 4225 → Label p → Label c → HasPair annotation p c r
      → FirstNamed annotation r s → IndexTo annotation r index → IndexTo annotation (r + 1) (set index (pair_of p c) (Some s))
  index_more {index} {p} {c} {r} {s} size l m has named so_far = record {
    row = λ q d k n. row q d k n (ℕ_discrete (pair_of q d) (pair_of p c));
    most = λ k q e. most k q e (ℕ_discrete k (pair_of p c));
  }
    where
      later : {q d : ℕ} {v : Option ℕ} → ¬ HasPair annotation q d r → Row annotation r q d v → Row annotation (r + 1) q d v
      later not_r (none f) = none (below_more (λ (s : ℕ). ¬ HasPair annotation _ _ s) r f not_r)
      later not_r (at {r = q} h x f) = at {r = q} (omega arith) x f

      another : {q d : ℕ} → ¬ (pair_of q d ≡ pair_of p c) → ¬ HasPair annotation q d r
      another apart x = apart (ap₂ pair_of (sym x.parent ∙ has.parent) (sym x.child ∙ has.child))

      row : (q d : ℕ) → Label q → Label d → Dec (pair_of q d ≡ pair_of p c)
          → Row annotation (r + 1) q d (get_or (set index (pair_of p c) (Some s)) (pair_of q d) None)
      row q d k n (yes e) =
          let (e', f) = pair_apart n m e in
          rw (e, get_or-set_same index (pair_of p c) (Some s) None (omega arith)) (at {r = r} (omega arith) (rw (e', f) has) named)
      row q d k n (no apart) =
          rw (get_or-set_other index (pair_of p c) (pair_of q d) (Some s) None apart) (later (another apart) (so_far.row q d k n))

      most : (k q : ℕ) → get_or (set index (pair_of p c) (Some s)) k None ≡ Some q → Dec (k ≡ pair_of p c) → q < r + 1
      most k q is (yes e) =
          let same : s ≡ q = some_one (rw (e, get_or-set_same index (pair_of p c) (Some s) None (omega arith)) at is) in
          omega (arith, named.known)
      most k q is (no n) = omega (arith, so_far.most k q (rw (get_or-set_other index (pair_of p c) k (Some s) None n) at is))

  module _ {es : Entries} (a : Annotation es annotation) where
    -- the records of an annotation name labels
    pub annotation_labelled : Labelled annotation
    annotation_labelled r l = let form = (a.each r l).form in (form.parent, form.child)

    -- there are at most 32
    pub records_most : length (records annotation) ≤ 32
    records_most = omega (arith, a.size.most, records_length annotation, entries_length annotation)

    -- the place of a record's pair
    abbrev place_of : ℕ → ℕ
    place_of r = pair_of (record_at (records annotation) r).parent (record_at (records annotation) r).child

    -- places ascend, since pairs do
    next_place : (r : ℕ) → suc r < length (records annotation) → place_of r < place_of (suc r)
    unfolding AboveLast Ascends
    next_place r l =
        let (p, c) = annotation_labelled r (omega arith) in
        let (q, d) = annotation_labelled (suc r) l in
        ⊎_elim (λ less. omega arith) (λ (same, less). omega arith) (a.each (suc r) l).ascends

    places_ascend : (r s : ℕ) → r < s → s < length (records annotation) → place_of r < place_of s
    places_ascend r zero h l = absurd (omega arith)
    places_ascend r (suc s) h l =
        let next = next_place s l in
        ⊎_elim (λ e. rw e next) (λ k. omega (arith, places_ascend r s k (omega arith))) (eq-or-lt_of_le (le_of_suc-le-suc h))

    -- a pair has one record
    pub pair_one : {p c r s : ℕ} → r < length (records annotation) → s < length (records annotation)
        → HasPair annotation p c r → HasPair annotation p c s → r ≡ s
    pair_one {r = r} {s = s} l m x y =
        let p = x.parent in
        let c = x.child in
        let q = y.parent in
        let d = y.child in
        let f : ¬ (r < s) = λ h. omega (arith, places_ascend r s h m) in
        let b : ¬ (s < r) = λ h. omega (arith, places_ascend s r h l) in
        omega arith
