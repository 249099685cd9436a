-- Annotation records: their fields stand where those of a query entry do, and which tests decide whether a record is right. Assumes
-- nothing.
use Prim.Native.Nat.{ℕ, zero, suc, ◌-◌, ◌≤◌, ◌<◌}
use native.Mathlib.Omega.{arith}
use mathlib.Core.Path.{◌≡◌, refl, sym, ◌∙◌}
use mathlib.Core.Bool.{Bool, true, false, ◌&&◌, ◌||◌, cond}
use mathlib.Core.List.{[], ◌∷◌, map}
use mathlib.Core.Option.{none, some}
use lib.Dec.{eqb, ltb}
use Rattle.std.specs.Prelude.{Some}
use Rattle.std.specs.Ordering.{partial_lt, is_some_and, is_lt, partial_ordering_then, nat_cmp}
use Rattle.std.specs.declared.cmp.Ordering.TheVariants.{Less, Equal, Greater}
use lib.ListN.{length, length-map, get_or-map, get_or-eq_default}
use Rattle.reply.specs.Bytes.{Bytes}
use Rattle.tree.specs.Tree.{Label}
use Rattle.tree.proofs.Tests.{Decides, less_test, equal_test, and_test, or_test, same_test}
use Rattle.query.specs.Kind.{Sort, filter, kinds, find}
use Rattle.query.specs.Table.{Entry, Entries, entries, entry_at, row_at, HasSort}
use Rattle.view.specs.Annotation.{AnnotationRecord, records, record_at, RecordForm, Ascends, AboveLast}
use Rattle.checks.specs.declared.annotation.Record.{Record}
use Rattle.checks.specs.Fields.{Fields}

-- the record whose six bytes are the entry's
abbrev record_of : Entry → AnnotationRecord
record_of e = record { parent = e.kind; child = e.label; filter = e.left; rest = e.right }

-- records are read as entries are
records_entries : (b : Bytes) → records b ≡ map record_of (entries b)
unfolding records entries
records_entries [] = refl
records_entries (a ∷ []) = refl
records_entries (a ∷ b ∷ []) = refl
records_entries (a ∷ b ∷ c ∷ []) = refl
records_entries (a ∷ b ∷ c ∷ d ∷ []) = refl
records_entries (a ∷ b ∷ c ∷ d ∷ e ∷ []) = refl
records_entries (a ∷ b ∷ c ∷ d ∷ e ∷ f ∷ more) = rw (records_entries more)

module _ (b : Bytes) where
  -- there is a record for each six bytes, as there is an entry
  pub records_length : length (records b) ≡ length (entries b)
  records_length = rw (records_entries b) (length-map (entries b) record_of)

  -- record i has the fields of entry i
  pub record_entry : (i : ℕ) → record_at (records b) i ≡ record_of (entry_at (entries b) i)
  unfolding record_at entry_at
  record_entry i = rw (records_entries b) (get_or-map record_of (entries b) i _)

-- behind a table's last entry there is no row
no_row : (es : Entries) (i : ℕ) → length es ≤ i → row_at es i ≡ none
unfolding row_at entry_at kinds find
no_row es i l = rw (get_or-eq_default es (record { kind = 0; label = 0; left = 0; right = 0 }) l)

-- what has a sort is an entry of the table
sorted_named : {es : Entries} {i : ℕ} {s : Sort} → HasSort es i s → i < length es
sorted_named {es} {i} h = let inside : ¬ (length es ≤ i) = behind in omega arith
  where
    behind : ¬ (length es ≤ i)
    behind l =
        let e : none ≡ some h.row = sym (no_row es i l) ∙ h.listed in
        let z : ◌≡◌ {A = ℕ} 0 1 = cc in
        omega arith

-- the record that a struct was read from
abbrev given : Record → AnnotationRecord
given r = record { parent = r.parent; child = r.child; filter = r.filter; rest = r.rest }

-- it is the one record with those fields
was_read : {g : AnnotationRecord} {r : Record} → Fields g r → g ≡ given r
was_read f = λ i. record { parent = sym f.parent i; child = sym f.child i; filter = sym f.filter i; rest = sym f.rest i }

-- four tests decide whether a record has two labels, ends in zero bytes and names a filter entry
pub form_test : (es : Entries) {g : AnnotationRecord} {r : Record} {parent child sorted : Bool} → Fields g r
    → Decides parent (Label r.parent) → Decides child (Label r.child) → Decides sorted (HasSort es r.filter filter)
    → Decides (((parent && child) && eqb r.rest 0) && sorted) (RecordForm es g)
form_test es {r = r} f parent child sorted =
    rw (was_read f)
    (same_test
    (and_test (and_test (and_test parent child) (equal_test r.rest 0)) sorted) (
      λ p. record { parent = p.0.0.0; child = p.0.0.1; rest = p.0.1; named = sorted_named p.1; filter = p.1 },
      λ (q : RecordForm es (given r)). (((q.parent, q.child), q.rest), q.filter),
    ))

module _ (b : Bytes) where
  -- the first record stands above all before it
  pub first_above : {i : ℕ} → i ≡ 0 → AboveLast (records b) i
  unfolding AboveLast
  first_above e = rw e tt

  -- three tests decide whether a later record stands above the one before
  pub above_test : (i : ℕ) {r s : Record} → ¬ (i ≡ 0) → Fields (record_at (records b) (i - 1)) r → Fields (record_at (records b) i) s
      → Decides (ltb r.parent s.parent || eqb r.parent s.parent && ltb r.child s.child) (AboveLast (records b) i)
  unfolding AboveLast Ascends
  above_test zero later last own = absurd (later refl)
  above_test (suc i) {r} {s} later last own =
      let before : suc i - 1 ≡ i = omega arith in
      rw (was_read (rw before at last), was_read own)
      (or_test (less_test r.parent s.parent) (and_test (equal_test r.parent s.parent) (less_test r.child s.child)))

-- what two tests say of a pair's parts, the order of pairs says of the pairs
tests_less : (l e m f : Bool) → is_some_and is_lt (partial_ordering_then (Some (cond l Less (cond e Equal Greater))) (Some (cond m Less (cond f Equal Greater))))
    ≡ (l || e && m)
tests_less true e m f = refl
tests_less false false m f = refl
tests_less false true true f = refl
tests_less false true false true = refl
tests_less false true false false = refl

pub pair_less : (a b p q : ℕ) → partial_lt {X = ℕ × ℕ} (λ x y. partial_ordering_then (Some (nat_cmp x.0 y.0)) (Some (nat_cmp x.1 y.1))) (a, b) (p, q)
    ≡ (ltb a p || eqb a p && ltb b q)
pair_less a b p q = tests_less (ltb a p) (eqb a p) (ltb b q) (eqb b q)
