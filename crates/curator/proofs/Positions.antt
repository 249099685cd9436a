-- One pass over the records turns a set of record numbers into the set of their view positions: it counts the visible nodes passed, and
-- the count is the position of the next one. Assumes nothing.
use Prim.Native.Nat.{ℕ, ◌+◌, ◌≤◌, ◌<◌}
use native.Mathlib.Omega.{arith}
use native.Mathlib.Decide.{ℕ_discrete}
use native.Mathlib.Numerals.{add-one}
use mathlib.Core.Path.{◌≡◌}
use mathlib.Core.Logic.Iff
use mathlib.Core.Logic.{◌⊎◌, inl, inr, ⊎_elim}
use mathlib.Core.List.{List}
use Rattle.sets.specs.Sets.{In, Holds, Image}
use Rattle.view.specs.View.{Before, start, seen, hidden, Position}
use Rattle.view.proofs.Positions.{before_unique, before_most, position_as}

-- The pass has come to record i, with k visible nodes before it: `positions` holds the positions of the members before i.
pub record Turned (Seen : ℕ → Type 0) (members : List ℕ) (i k : ℕ) (positions : List ℕ) : Type 0 where
  pub before : Before Seen i k
  pub so_far : Image (λ j m. (j < i) × Position Seen j m) members positions

module _ {Seen : ℕ → Type 0} {members : List ℕ} where
  -- before the first record
  pub none_turned : {positions : List ℕ} → Holds (λ k. ⊥) positions → Turned Seen members 0 0 positions
  none_turned empty = record {
    before = start;
    so_far = record { exact = λ m. (λ x. absurd ((empty.exact m).0 x), λ (j, y, (l, at)). absurd (omega arith)) };
  }

  module _ {i k : ℕ} {positions : List ℕ} (turned : Turned Seen members i k positions) where
    -- the count is no more than the records passed
    pub turned_most : k ≤ i
    turned_most = before_most turned.before

    -- a record that is hidden or no member adds no position
    so_far_same : ¬ (In members i × Seen i) → Image (λ j m. (j < i + 1) × Position Seen j m) members positions
    so_far_same out = record {
      exact = λ m. (
        λ x. let (j, y, (l, at)) = (turned.so_far.exact m).0 x in (j, y, (omega arith, at)),
        λ (j, y, (l, at)).
            let other : ¬ (j ≡ i) = λ e. out (rw e at y, rw e at at.visible) in
            (turned.so_far.exact m).1 (j, y, (omega arith, at)),
      );
    }

    pub hidden_turned : ¬ Seen i → Turned Seen members (i + 1) k positions
    hidden_turned out = record { before = rw add-one (hidden out turned.before); so_far = so_far_same (λ (y, s). out s) }

    pub others_turned : Seen i → ¬ In members i → Turned Seen members (i + 1) (k + 1) positions
    others_turned s out = record { before = rw (add-one i, add-one k) (seen s turned.before); so_far = so_far_same (λ (y, z). out y) }

    -- a visible member adds the count
    pub member_turned : {more : List ℕ} → Seen i → In members i → Holds (λ m. In positions m ⊎ (k ≡ m)) more
        → Turned Seen members (i + 1) (k + 1) more
    member_turned {more} s here added = record {
      before = rw (add-one i, add-one k) (seen s turned.before);
      so_far = record {
        exact = λ m. (λ x. ⊎_elim (old m) (new m) ((added.exact m).0 x), λ (j, y, (l, at)). (added.exact m).1 (found m j y l at));
      };
    }
      where
        old : (m : ℕ) → In positions m → (j : ℕ) × In members j × ((j < i + 1) × Position Seen j m)
        old m x = let (j, y, (l, at)) = (turned.so_far.exact m).0 x in (j, y, (omega arith, at))

        new : (m : ℕ) → k ≡ m → (j : ℕ) × In members j × ((j < i + 1) × Position Seen j m)
        new m e = (i, here, (omega arith, record { visible = s; before = rw e at turned.before }))

        found : (m j : ℕ) → In members j → j < i + 1 → Position Seen j m → In positions m ⊎ (k ≡ m)
        found m j y l at =
            elim (ℕ_discrete j i) [
              | yes e ↦ inr (before_unique turned.before (rw e at at.before))
              | no other ↦ inl ((turned.so_far.exact m).1 (j, y, (omega arith, at)))
            ]

    -- behind the last record all members are turned
    pub all_turned : ((j : ℕ) → In members j → Seen j → j < i) → Image (Position Seen) members positions
    all_turned inside = record {
      exact = λ m. (
        λ x. let (j, y, (l, at)) = (turned.so_far.exact m).0 x in (j, y, at),
        λ (j, y, at). (turned.so_far.exact m).1 (j, y, (inside j y at.visible, at)),
      );
    }

-- who is visible may be told by a set
pub turned_as : {Seen : ℕ → Type 0} {shown members positions : List ℕ} → Holds Seen shown → Image (Position (In shown)) members positions
    → Image (Position Seen) members positions
turned_as tells turned = record {
  exact = λ m. (
    λ x. let (j, y, at) = (turned.exact m).0 x in (j, y, position_as tells.exact at),
    λ (j, y, at). (turned.exact m).1 (j, y, position_as (λ i. Iff.symm (tells.exact i)) at),
  );
}
