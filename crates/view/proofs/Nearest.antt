-- Nearest visible proper ancestors: each node but the root has one and no second, and no visible ancestor stands between. And the next
-- visible node with the same nearest visible ancestor. Assumes nothing.
use Prim.Native.Nat.{ℕ, zero, suc, ◌≤◌, ◌<◌}
use native.Mathlib.Nat.{le_refl, lt_trans, pos_of_ne-zero}
use native.Mathlib.Omega.{arith}
use mathlib.Core.Path.{◌≡◌, refl}
use mathlib.Core.Logic.{◌↔◌}
use lib.ListN.{length}
use Rattle.tree.specs.Tree.{Tree, parent_at, Child, Above, InOrder}
use Rattle.tree.proofs.Order.{above_trans, child_above, child_less, parent_smaller}
use Rattle.tree.proofs.Siblings.{child_unique}
use Rattle.tree.proofs.Runs.{above_child}
use Rattle.view.specs.View.{Nearest, parent, beyond}

-- j is the next visible node behind i with the nearest visible ancestor that i has.
pub record NextSeen (t : Tree) (Seen : ℕ → Type 0) (i j : ℕ) : Type 0 where
  pub above : ℕ
  pub left : Nearest t Seen i above
  pub right : Nearest t Seen j above
  pub order : i < j
  pub node : j < length t
  pub visible : Seen j
  pub between : (m : ℕ) → i < m → m < j → Seen m → ¬ Nearest t Seen m above

module _ {t : Tree} {Seen : ℕ → Type 0} where
  -- a visible parent is the nearest
  nearest_parent : {q i p : ℕ} → Child t q i → Seen q → Nearest t Seen i p → q ≡ p
  nearest_parent c s (parent d r) = child_unique t c d
  nearest_parent c s (beyond d h x) = absurd (h (rw (child_unique t c d) at s))

  -- past a hidden parent, the nearest is the parent's
  pub nearest_beyond : {q i p : ℕ} → Child t q i → ¬ Seen q → Nearest t Seen i p ↔ Nearest t Seen q p
  nearest_beyond {q} {i} {p} c h = (go, beyond c h)
    where
      go : Nearest t Seen i p → Nearest t Seen q p
      go (parent d s) = absurd (h (rw (child_unique t d c) at s))
      go (beyond d g x) = rw (child_unique t d c) at x

  -- there is no second one
  pub nearest_unique : {i p q : ℕ} → Nearest t Seen i p → Nearest t Seen i q → p ≡ q
  nearest_unique (parent c s) y = nearest_parent c s y
  nearest_unique (beyond c h x) y = nearest_unique x ((nearest_beyond c h).0 y)

  -- it is visible
  pub nearest_seen : {i p : ℕ} → Nearest t Seen i p → Seen p
  nearest_seen (parent c s) = s
  nearest_seen (beyond c h x) = nearest_seen x

  -- it is an ancestor
  pub nearest_above : {i p : ℕ} → Nearest t Seen i p → Above t p i
  nearest_above (parent c s) = child_above t c
  nearest_above (beyond c h x) = above_trans t (nearest_above x) (child_above t c)

  -- only a node has one
  pub nearest_node : {i p : ℕ} → Nearest t Seen i p → i < length t
  nearest_node (parent c s) = c.node
  nearest_node (beyond c h x) = c.node

module _ {t : Tree} {Seen : ℕ → Type 0} (o : InOrder t) where
  -- it has a smaller record number
  pub nearest_less : {i p : ℕ} → Nearest t Seen i p → p < i
  nearest_less (parent c s) = child_less t o c
  nearest_less (beyond c h x) = lt_trans (nearest_less x) (child_less t o c)

  -- every visible proper ancestor is above the nearest one
  pub nearest_below : {a i p : ℕ} → Seen a → Above t a i → ¬ (a ≡ i) → Nearest t Seen i p → Above t a p
  nearest_below s x n (parent c r) = above_child t o c x n
  nearest_below s x n (beyond c h y) = nearest_below s (above_child t o c x n) (λ e. h (rw e at s)) y

  module _ (dec : (i : ℕ) → Dec (Seen i)) (root : Seen 0) where
    -- up to n, every node but the root has one: its parent or, where that is hidden, the parent's
    exists_upto : (n i : ℕ) → i ≤ n → 0 < i → i < length t → (p : ℕ) × Nearest t Seen i p
    exists_upto zero i b z l = absurd (omega arith)
    exists_upto (suc n) i b z l =
        let less : parent_at t i < i = parent_smaller t o i z l in
        go (dec (parent_at t i)) (λ y. exists_upto n (parent_at t i) (omega arith) y (omega arith))
      where
        child : Child t (parent_at t i) i
        child = record { later = z; node = l; parent = refl }

        go : Dec (Seen (parent_at t i)) → (0 < parent_at t i → (p : ℕ) × Nearest t Seen (parent_at t i) p) → (p : ℕ) × Nearest t Seen i p
        go (yes s) further = (parent_at t i, parent child s)
        go (no h) further =
            let r = further (pos_of_ne-zero (λ e. h (rw e root))) in
            (r.0, beyond child h r.1)

    -- every node but the root has one
    pub nearest_exists : (i : ℕ) → 0 < i → i < length t → (p : ℕ) × Nearest t Seen i p
    nearest_exists i = exists_upto i i (le_refl i)
