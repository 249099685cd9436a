-- Links are filled in one by one: after the records below j, they are right for the pairs of siblings whose second is below j.
-- Assumes nothing.
use Prim.Native.Nat.{ℕ, ◌+◌, ◌-◌, ◌≤◌, ◌<◌}
use native.Mathlib.Decide.{ℕ_discrete, dec_lt}
use native.Mathlib.Omega.{arith}
use mathlib.Core.Path.{◌≡◌, sym, ◌∙◌}
use mathlib.Core.Logic.{◌↔◌}
use mathlib.Core.List.{List}
use lib.ListN.{length, get_or, set, replicate, length-set, length-replicate, get_or-replicate}
use lib.Seq.{get_or-set_same, get_or-set_other}
use Rattle.tree.specs.Tree.{Tree, Next}
use Rattle.tree.proofs.Siblings.{previous_unique}
use Rattle.std.specs.Prelude.{Option, Some, None}
use Rattle.links.specs.Links.{Link, to, nowhere, LinkIs, NumberIs, Linked, next, previous, Siblings}

module _ {R S : ℕ → ℕ → Type 0} where
  -- a link is right for any relation that leads from i where the first one does
  pub link_same : {i j : ℕ} → ((m : ℕ) → R i m ↔ S i m) → Link R i j → Link S i j
  link_same {i} {j} same (to l r) = to l ((same j).0 r)
  link_same same (nowhere f) = nowhere (λ m s. f m ((same m).1 s))

  pub linked_same : {link : ℕ → ℕ} → ((i m : ℕ) → R i m ↔ S i m) → Linked R link → Linked S link
  linked_same same linked = record { each = λ i l. link_same (same i) (linked.each i l) }

  -- a link from i to j makes links right that were right for a relation which is another at i only
  linked_more : {link more : ℕ → ℕ} {i j : ℕ} → j < 4096 → S i j → more i ≡ j → ((k : ℕ) → k < 4096 → ¬ (k ≡ i) → more k ≡ link k)
      → ((k : ℕ) → ¬ (k ≡ i) → (m : ℕ) → R k m ↔ S k m) → Linked R link → Linked S more
  linked_more {i = i} low s new old same linked =
      record {
        each = λ k l.
            elim (ℕ_discrete k i) [
              | yes e ↦ rw (e, new) (to low s)
              | no n ↦ rw (old k l n) (link_same (same k n) (linked.each k l))
            ];
      }

-- an answer says what the link does whose number it gives
pub link_is : {R : ℕ → ℕ → Type 0} {i v : ℕ} (r : Option ℕ) → Link R i v → NumberIs v r → LinkIs R i r
link_is (Some j) (to l leads) (e, _) = rw (sym e) (l, leads)
link_is (Some j) (nowhere none) (e, l) = absurd (omega arith)
link_is None (to l leads) e = absurd (omega arith)
link_is None (nowhere none) e = none

-- where nothing leads anywhere, no link is there
linked_none : {R : ℕ → ℕ → Type 0} {link : ℕ → ℕ} → ((i : ℕ) → i < 4096 → link i ≡ 65535) → ((i m : ℕ) → ¬ R i m) → Linked R link
linked_none e none = record { each = λ i l. rw (e i l) (nowhere (none i)) }

-- m is the next sibling of i, and below j
abbrev NextTo : Tree → ℕ → ℕ → ℕ → Type 0
NextTo t j i m = Next t i m × (m < j)

-- the links after the records below j
pub record SiblingsTo (t : Tree) (j : ℕ) (links : List ℕ) : Type 0 where
  pub onwards : Linked (NextTo t j) (next links)
  pub backwards : Linked (λ i m. NextTo t j m i) (previous links)
  pub size : length links ≡ 8192

module _ {t : Tree} {links : List ℕ} where
  -- at first there are none
  pub siblings_none : links ≡ replicate 8192 65535 → SiblingsTo t 0 links
  siblings_none e =
      record {
        onwards = linked_none (λ i l. rw (e, get_or-replicate {A = ℕ} 8192 i 65535 65535 (omega arith))) (λ i m r. omega arith);
        backwards = linked_none (λ i l. rw (e, get_or-replicate {A = ℕ} 8192 (4096 + i) 65535 65535 (omega arith))) (λ i m r. omega arith);
        size = rw e (length-replicate {A = ℕ} 8192 65535);
      }

  module _ {j : ℕ} (so_far : SiblingsTo t j links) where
    -- a pair of siblings whose second is not j is there after record j where it was there before
    still : {i m : ℕ} → (Next t i m → ¬ (m ≡ j)) → NextTo t j i m ↔ NextTo t (j + 1) i m
    still apart = (λ r. (r.0, omega arith), λ r. let n = apart r.0 in (r.0, omega arith))

    -- record j is linked with the record whose next sibling it is
    pub siblings_more : {i : ℕ} → length t ≤ 4096 → Next t i j → SiblingsTo t (j + 1) (set (set links (4096 + j) i) i j)
    siblings_more {i} most n =
        let inside = n.right.node in
        let order = n.order in
        let size = so_far.size in
        let back = set links (4096 + j) i in
        let same_size : length back ≡ 8192 = simp length-set size in
        record {
          onwards =
              linked_more (omega arith) (n, omega arith) (get_or-set_same back i j 65535 (omega arith))
              (λ k l apart. get_or-set_other back i k j 65535 apart ∙ get_or-set_other links (4096 + j) k i 65535 (λ e. omega arith))
              (λ k apart m. still (λ r e. apart (previous_unique t (rw e at r) n))) so_far.onwards;
          backwards =
              linked_more (omega arith) (n, omega arith)
              (get_or-set_other back i (4096 + j) j 65535 (λ e. omega arith) ∙ get_or-set_same links (4096 + j) i 65535 (omega arith))
              (λ k l apart. get_or-set_other back i (4096 + k) j 65535 (λ e. omega arith)
              ∙ get_or-set_other links (4096 + j) (4096 + k) i 65535 (λ e. apart (omega arith)))
              (λ k apart m. still (λ r. apart)) so_far.backwards;
          size = simp length-set size;
        }

    -- where there is no such record, nothing changes
    pub siblings_same : ((i : ℕ) → ¬ Next t i j) → SiblingsTo t (j + 1) links
    siblings_same none =
        let same : (i m : ℕ) → NextTo t j i m ↔ NextTo t (j + 1) i m = λ i m. still (λ r e. none i (rw e at r)) in
        record {
          onwards = linked_same same so_far.onwards;
          backwards = linked_same (λ i m. same m i) so_far.backwards;
          size = so_far.size;
        }

  -- behind the last record there is nothing to link
  pub siblings_all : SiblingsTo t (length t) links → Siblings t links
  siblings_all all =
      record {
        onwards = linked_same (λ i m. (λ r. r.0, λ n. (n, n.right.node))) all.onwards;
        backwards = linked_same (λ i m. (λ r. r.0, λ n. (n, n.right.node))) all.backwards;
      }

-- each of the links that is there leads to a record
pub link_low : {t : Tree} {links : List ℕ} {place j : ℕ} → Siblings t links → place < 8192 → NumberIs (get_or links place 65535) (Some j) → j < 4096
link_low {links = links} {place} {j} all l (e, leads) =
    elim (dec_lt place 4096) [
      | yes h ↦ low (all.onwards.each place h) e
      | no h ↦
          let i = place - 4096 in
          let at : 4096 + i ≡ place = omega arith in
          low (all.backwards.each i (omega arith)) (rw at e)
    ]
  where
    low : {R : ℕ → ℕ → Type 0} {i v : ℕ} → Link R i v → v ≡ j → j < 4096
    low (to l r) e = omega arith
    low (nowhere none) e = absurd (omega arith)
