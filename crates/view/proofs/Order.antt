-- "The view is itself a node table of the form above": it has a root, which has no parent, and is in document order. And there is only one
-- view. Assumes nothing.
use Prim.Native.Nat.{ℕ, zero, suc, ◌≤◌, ◌<◌}
use native.Mathlib.Nat.{le_refl, zero-lt-suc}
use native.Mathlib.Decide.{ℕ_discrete}
use native.Mathlib.Omega.{arith}
use mathlib.Core.Path.{◌≡◌, sym, ◌∙◌}
use lib.ListN.{length}
use lib.Seq.{ext_get_or}
use Rattle.tree.specs.Tree.{Tree, label_at, parent_at, Above, here, up, InOrder}
use Rattle.tree.proofs.Order.{above_le, no_gap}
use Rattle.view.specs.View.{start, Position, View}
use Rattle.view.proofs.Nearest.{nearest_above, nearest_less, nearest_below}
use Rattle.view.proofs.Positions.{before_unique, before_counts, before_reflects, position_unique}
use Rattle.view.proofs.Carried.{view_node, view_position, parent_nearest}

module _ {t : Tree} (o : InOrder t) {Seen : ℕ → Type 0} (dec : (i : ℕ) → Dec (Seen i)) (root : Seen 0) {v : Tree} (view : View t Seen v) where
  -- the root is in the view
  pub view_root : 0 < length t → 0 < length v
  view_root h = view_position view h (record { visible = root; before = start })

  -- below n, the position of an ancestor is above that of the node: the nearest visible ancestor is below it too
  carried_upto : (n : ℕ) {i p q k : ℕ} → i < n → i < length t → Position Seen p q → Position Seen i k → Above t p i → Above v q k
  carried_upto zero b l x y a = absurd (omega arith)
  carried_upto (suc n) {i} {p} {q} {k} b l x y a =
      elim (ℕ_discrete p i) [
        | yes e ↦ rw (position_unique (rw e at x) y) here
        | no h ↦
            let least : p ≤ i = above_le t o l a in
            let order : q < k = before_counts (omega arith) x y.before in
            let later : 0 < k = omega arith in
            let (r, z, m) = parent_nearest o dec root view y l later in
            let less : r < i = nearest_less o m in
            up later (carried_upto n (omega arith) (omega arith) x z (nearest_below o x.visible a h m))
      ]

  -- the position of an ancestor is above that of the node
  pub above_carried : {i p q k : ℕ} → i < length t → Position Seen p q → Position Seen i k → Above t p i → Above v q k
  above_carried {i} = carried_upto (suc i) (le_refl (suc i))

  -- "For each later record i the parent p is either i − 1 or an ancestor of i − 1": the nearest visible ancestor of a node is above the
  -- visible node before it, since a run has no gap
  pub view_in_order : InOrder v
  unfolding InOrder
  view_in_order k h =
      let (j, l, y) = view_node view h in
      let (i, g, x) = view_node view {k = k} (omega arith) in
      let (p, z, n) = parent_nearest o dec root view y l (zero-lt-suc k) in
      let after : i < j = before_reflects (le_refl (suc k)) x.before y.before in
      let least : parent_at v (suc k) < suc k = before_counts (nearest_less o n) z y.before in
      let early : ¬ (i < p) = λ f. let g = before_counts f x z.before in omega arith in
      above_carried g z x (no_gap t o l (omega arith) (omega arith) (nearest_above n))

  module _ {w : Tree} (other : View t Seen w) where
    -- at each position both have the label of the node
    same_label : (k : ℕ) → k < length v → label_at v k ≡ label_at w k
    same_label k h = let (i, l, x) = view_node view h in view.label l x ∙ sym (other.label l x)

    -- and the position of its nearest visible ancestor
    same_parent : (k : ℕ) → k < length v → parent_at v k ≡ parent_at w k
    same_parent zero h = view.root ∙ sym other.root
    same_parent (suc k) h =
        let (j, l, y) = view_node view h in
        let (i, x, n) = parent_nearest o dec root view y l (zero-lt-suc k) in
        sym (other.parent y n x)

    -- there is only one view
    pub view_unique : v ≡ w
    unfolding label_at parent_at
    view_unique =
        ext_get_or (record { label = 0; parent = 0 }) v w (before_unique view.size other.size) (λ k h i. record {
          label = same_label k h i;
          parent = same_parent k h i;
        })
