-- The view's child and next sibling, said of the tree: positions carry the one to the nearest visible proper ancestor, the other to the
-- next visible node under the same one. Assumes nothing.
use Prim.Native.Nat.{ℕ, ◌<◌}
use native.Mathlib.Omega.{arith}
use mathlib.Core.Logic.{◌↔◌}
use lib.ListN.{length}
use Rattle.tree.specs.Tree.{Tree, parent_at, Child, Next, InOrder}
use Rattle.view.specs.View.{start, Position, Nearest, View}
use Rattle.view.proofs.Nearest.{NextSeen, nearest_seen, nearest_node, nearest_less, nearest_exists}
use Rattle.view.proofs.Positions.{before_counts, before_reflects, position_order, position_injective, position_taken, position_exists}

module _ {t : Tree} {Seen : ℕ → Type 0} {v : Tree} (view : View t Seen v) where
  -- every position of the view has a node
  pub view_node : {k : ℕ} → k < length v → (i : ℕ) × (i < length t) × Position Seen i k
  view_node h = position_taken view.size h

  -- a node's position is in the view
  pub view_position : {i k : ℕ} → i < length t → Position Seen i k → k < length v
  view_position l x = before_counts l x view.size

module _ {t : Tree} (o : InOrder t) {Seen : ℕ → Type 0} (dec : (i : ℕ) → Dec (Seen i)) (root : Seen 0) {v : Tree} (view : View t Seen v) where
  -- behind the root, the view's parent field is the position of the nearest visible proper ancestor
  pub parent_nearest : {j b : ℕ} → Position Seen j b → j < length t → 0 < b → (i : ℕ) × Position Seen i (parent_at v b) × Nearest t Seen j i
  parent_nearest {j} y l z =
      let r = nearest_exists o dec root j (before_reflects z start y.before) l in
      let q = position_exists dec (nearest_seen r.1) in
      (r.0, rw (view.parent y r.1 q.1) q.1, r.1)

  -- child in the view is nearest visible proper ancestor, turned round
  pub child_carried : {i j a b : ℕ} → Position Seen i a → Position Seen j b → j < length t → Child v a b ↔ Nearest t Seen j i
  child_carried {i} {j} {a} {b} x y l = (onto, from)
    where
      onto : Child v a b → Nearest t Seen j i
      onto c =
          let r = parent_nearest y l c.later in
          rw (position_injective x (rw c.parent at r.1)) r.2

      from : Nearest t Seen j i → Child v a b
      from n =
          let h : a < b = before_counts (nearest_less o n) x y.before in
          record { later = omega arith; node = view_position view l y; parent = view.parent y n x }

  -- next sibling in the view is the next visible node under the same nearest visible ancestor
  pub next_carried : {i j a b : ℕ} → Position Seen i a → i < length t → Position Seen j b → j < length t → Next v a b ↔ NextSeen t Seen i j
  next_carried {i} {j} {a} {b} x l y h = (onto, from)
    where
      onto : Next v a b → NextSeen t Seen i j
      onto n =
          let r = parent_nearest x l n.left.later in
          let p : Position Seen r.0 n.above = rw n.left.parent at r.1 in
          record {
            above = r.0;
            left = r.2;
            right = (child_carried p y h).0 n.right;
            order = (position_order x y).1 n.order;
            node = h;
            visible = y.visible;
            between = λ m f g s q.
                let (c, z) = position_exists dec s in
                n.between c ((position_order x z).0 f) ((position_order z y).0 g) ((child_carried p z (nearest_node q)).1 q);
          }

      from : NextSeen t Seen i j → Next v a b
      from n =
          let (c, p) = position_exists dec (nearest_seen n.left) in
          record {
            above = c;
            left = (child_carried p x l).1 n.left;
            right = (child_carried p y h).1 n.right;
            order = (position_order x y).0 n.order;
            between = λ m f g d.
                let (k, e, z) = view_node view d.node in
                n.between k ((position_order x z).1 f) ((position_order z y).1 g) z.visible ((child_carried p z e).0 d);
          }
