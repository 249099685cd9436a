-- The climb from a record towards the root, and how what it comes to decides the parent rule. Assumes nothing.
use Prim.Native.Nat.{ℕ, suc, ◌≤◌, ◌<◌}
use native.Mathlib.Nat.{le_refl}
use native.Mathlib.Omega.{arith}
use mathlib.Core.Path.{◌≡◌, sym, subst}
use mathlib.Core.Logic.Iff
use mathlib.Core.Logic.{◌↔◌}
use lib.Dec.{eqb}
use Rattle.tree.specs.Tree.{Tree, parent_at, Child, Next, Above, here, up, InOrder}
use Rattle.tree.proofs.Order.{InOrderTo, above_trans, above_up, above_le_to, parent_smaller_to, above_linear_to, above_le, child_node, child_before, no_gap}
use Rattle.tree.proofs.Runs.{above_child, first_has_no_previous}
use Rattle.tree.proofs.Tests.{Decides, equal_test, same_test}
use Rattle.roll.specs.Roll.{none, ParentRule}

module _ (t : Tree) where
  -- records that follow the parent rule are in document order
  pub in_order_to : (n : ℕ) → ((k : ℕ) → k < n → ParentRule t k) → InOrderTo t n
  unfolding ParentRule
  in_order_to n rule i l = rule (suc i) l

  -- a step up the way from `start` stays on that way
  pub climb_step : {start at : ℕ} → Above t at start → 0 < at → Above t (parent_at t at) start
  climb_step a z = above_trans t (up z here) a

  -- `at` is the last record behind `wanted` on the way from `start` upwards
  abbrev Climbed : ℕ → ℕ → ℕ → Type 0
  Climbed start wanted at = Above t at start × (wanted < at) × (parent_at t at ≤ wanted)

  module _ (start : ℕ) (o : InOrderTo t (suc start)) where
    -- the records on the way from `start` upwards are no greater than it
    climb_le : {at : ℕ} → Above t at start → at ≤ start
    climb_le a = above_le_to t (suc start) o (le_refl (suc start)) a

    -- and each step of it goes to a smaller one
    pub climb_less : {at : ℕ} → Above t at start → 0 < at → parent_at t at < at
    climb_less {at} a z = let l = climb_le a in parent_smaller_to t (suc start) o at z (omega arith)

    -- of the records from `start` on, only `start` itself is above it
    start_decides : {wanted : ℕ} → start ≤ wanted → (wanted ≡ start) ↔ Above t wanted start
    start_decides l = (λ e. rw e here, λ a. let g = climb_le a in omega arith)

    -- a record before `start` is above it exactly if it is the parent of what the climb comes to
    climb_decides : {wanted at : ℕ} → wanted < start → Climbed start wanted at → (parent_at t at ≡ wanted) ↔ Above t wanted start
    climb_decides {wanted} {at} l (a, behind, stop) = (to, back)
      where
        to : parent_at t at ≡ wanted → Above t wanted start
        to e = rw e at (climb_step a (omega arith))

        back : Above t wanted start → parent_at t at ≡ wanted
        back w =
            let x : Above t wanted at = above_linear_to t (suc start) o (le_refl (suc start)) w a (omega arith) in
            let y : wanted ≤ parent_at t at = above_le_to t (suc start) o (omega arith) (above_up t x (omega arith)).1 in
            omega arith

  -- the three tests by which the parent p of record i is told right or wrong
  module _ {i p : ℕ} (e : p ≡ parent_at t i) where
    -- the root's is compared with its number
    pub root_test : i ≡ 0 → Decides (eqb p none) (ParentRule t i)
    unfolding ParentRule
    root_test z = same_test (equal_test p none) (rw (e, z) Iff.rfl)

    module _ (rule : (k : ℕ) → k < i → ParentRule t k) (before : ℕ) (s : suc before ≡ i) where
      -- a later record follows the rule exactly if its parent is above the record before it
      later : Above t p before ↔ ParentRule t i
      unfolding ParentRule
      later = rw (e, ← s) Iff.rfl

      -- the records before it are in document order
      o : InOrderTo t (suc before)
      o = in_order_to (suc before) (λ k l. rule k (omega arith))

      -- a parent that does not come before the record before it is compared with that record
      pub near_test : before ≤ p → Decides (eqb p before) (ParentRule t i)
      near_test l = same_test (equal_test p before) (Iff.trans (start_decides before o l) later)

      -- any other is compared with the parent of what the climb comes to
      pub far_test : {q at : ℕ} → q ≡ parent_at t at → p < before → Climbed before p at → Decides (eqb q p) (ParentRule t i)
      far_test {q} d l c = same_test (equal_test q p) (Iff.trans (subst (λ (x : ℕ). (x ≡ p) ↔ Above t p before) (sym d) (climb_decides before o l c)) later)

module _ (t : Tree) (o : InOrder t) where
  -- from the record before a record that is no first child, the climb towards its parent comes to its previous sibling
  pub climb_previous : {p j before at : ℕ} → suc before ≡ j → Child t p j → p < before → Climbed t before p at → Next t at j
  unfolding InOrder
  climb_previous {p} {j} {before} {at} s c l climbed =
      let (a, behind, stop) = climbed in
      let n = c.node in
      let low : at ≤ before = above_le t o (omega arith) a in
      let to : InOrderTo t (suc before) = λ i h. o i (omega arith) in
      record {
        above = p;
        left = record {
          later = omega arith;
          node = omega arith;
          parent = (climb_decides t before to l climbed).1 (child_before t o s c);
        };
        right = c;
        order = omega arith;
        between = λ m h g d.
            let x : Above t at m = no_gap t o (omega arith) (omega arith) (omega arith) a in
            let y : at ≤ p = above_le t o (child_node t o d) (above_child t o d x (omega arith)) in
            omega arith;
      }

  -- the record right behind its parent has no previous sibling
  pub behind_parent_first : {p j : ℕ} → suc p ≡ j → Child t p j → (i : ℕ) → ¬ Next t i j
  behind_parent_first s c i n = first_has_no_previous t o (rw (← s) at c) i (rw (← s) at n)
