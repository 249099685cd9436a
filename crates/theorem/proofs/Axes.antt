-- The four axes: between visible nodes, a rewritten axis does on the tree what the axis does on the view between their positions. Assumes
-- nothing.
use Prim.Native.Nat.{ℕ, ◌<◌}
use mathlib.Core.Logic.Iff
use mathlib.Core.Logic.{◌↔◌}
use lib.ListN.{length}
use Rattle.tree.specs.Tree.{Tree, InOrder}
use Rattle.query.specs.Syntax.{Path, Filter, child, parent, next, previous}
use Rattle.query.specs.Meaning.{reach, holds}
use Rattle.query.proofs.Inside.{reach_inside}
use Rattle.view.specs.View.{Position, Nearest, View}
use Rattle.view.proofs.Nearest.{NextSeen, nearest_seen}
use Rattle.view.proofs.Positions.{position_exists}
use Rattle.view.proofs.Carried.{view_node, view_position, child_carried, next_carried}
use Rattle.view.proofs.Order.{view_in_order}
use Rattle.axes.proofs.Formulas.{down, up, forwards, backwards}
use Rattle.theorem.proofs.Rewriting.{rewritten}
use Rattle.axes.proofs.Updown.{up_reaches, down_reaches}
use Rattle.axes.proofs.Sideways.{forwards_reaches}
use Rattle.axes.proofs.Backwards.{backwards_reaches}
use Rattle.theorem.proofs.Induction.{Bisimilar, Grounds}

-- a is the view position of the node i.
pub record Positioned (t : Tree) (Seen : ℕ → Type 0) (i a : ℕ) : Type 0 where
  pub node : i < length t
  pub position : Position Seen i a

module _ {t : Tree} (o : InOrder t) {Seen : ℕ → Type 0} (dec : (i : ℕ) → Dec (Seen i)) (root : Seen 0) {v : Tree} (view : View t Seen v) where
  -- p on the tree is like x on the view, if it leads to visible nodes only, and to such a node exactly where x leads to its position
  axis_alike : {p x : Path}
      → ((i a j : ℕ) → Positioned t Seen i a → reach t p i j → Seen j)
      → ((i a j b : ℕ) → Positioned t Seen i a → Positioned t Seen j b → reach t p i j ↔ reach v x a b)
      → Bisimilar t v (Positioned t Seen) p x
  axis_alike {p} {x} visible carried = record { forth = record { move = forth }; back = record { move = back } }
    where
      forth : {i a j : ℕ} → Positioned t Seen i a → reach t p i j → (b : ℕ) × Positioned t Seen j b × reach v x a b
      forth {i} {a} {j} z r =
          let (b, y) = position_exists dec (visible i a j z r) in
          let w : Positioned t Seen j b = record { node = reach_inside t o p z.node r; position = y } in
          (b, w, (carried i a j b z w).0 r)

      back : {a i b : ℕ} → Positioned t Seen i a → reach v x a b → (j : ℕ) × Positioned t Seen j b × reach t p i j
      back {a} {i} {b} z r =
          let inside = reach_inside v (view_in_order o dec root view) x (view_position view z.node z.position) r in
          let (j, l, y) = view_node view inside in
          let w : Positioned t Seen j b = record { node = l; position = y } in
          (j, w, (carried i a j b z w).1 r)

  module _ (vis : Filter) (right : (i : ℕ) → i < length t → holds t vis i ↔ Seen i) where
    -- `down` is child in the view
    child_alike : Bisimilar t v (Positioned t Seen) (rewritten vis child) child
    unfolding rewritten reach
    child_alike = axis_alike (λ i a j z r. ((reached z).0 r).1) (λ i a j b z w.
        let carried = child_carried o dec root view z.position w.position w.node in
        (λ r. carried.1 ((reached z).0 r).2, λ c. (reached z).1 (w.node, w.position.visible, carried.0 c)))
      where
        reached : {i a j : ℕ} → Positioned t Seen i a → reach t (down vis) i j ↔ ((j < length t) × Seen j × Nearest t Seen j i)
        reached z = down_reaches t o Seen dec root vis right z.node z.position.visible

    -- `up` is parent in the view
    parent_alike : Bisimilar t v (Positioned t Seen) (rewritten vis parent) parent
    unfolding rewritten reach
    parent_alike = axis_alike (λ i a j z r. nearest_seen ((reached z).0 r)) (λ i a j b z w.
        Iff.trans (reached z) (Iff.symm (child_carried o dec root view w.position z.position z.node)))
      where
        reached : {i a j : ℕ} → Positioned t Seen i a → reach t (up vis) i j ↔ Nearest t Seen i j
        reached z = up_reaches t o Seen dec root vis right z.node

    -- `forwards` is next sibling in the view
    next_alike : Bisimilar t v (Positioned t Seen) (rewritten vis next) next
    unfolding rewritten reach
    next_alike = axis_alike (λ i a j z r. ((reached z).0 r).visible) (λ i a j b z w.
        Iff.trans (reached z) (Iff.symm (next_carried o dec root view z.position z.node w.position w.node)))
      where
        reached : {i a j : ℕ} → Positioned t Seen i a → reach t (forwards vis) i j ↔ NextSeen t Seen i j
        reached z = forwards_reaches t o Seen dec root vis right z.node z.position.visible

    -- `backwards` is previous sibling in the view
    previous_alike : Bisimilar t v (Positioned t Seen) (rewritten vis previous) previous
    unfolding rewritten reach
    previous_alike = axis_alike (λ i a j z r. ((reached z).0 r).1) (λ i a j b z w.
        let carried = next_carried o dec root view w.position w.node z.position z.node in
        (λ r. carried.1 ((reached z).0 r).0, λ n. (reached z).1 (carried.0 n, w.position.visible, w.node)))
      where
        reached : {i a j : ℕ} → Positioned t Seen i a → reach t (backwards vis) i j ↔ (NextSeen t Seen j i × Seen j × (j < length t))
        reached z = backwards_reaches t o Seen dec root vis right z.node z.position.visible

    -- the grounds of the rewriting, between nodes and their view positions
    pub grounds : Grounds t v (Positioned t Seen) vis
    grounds =
        record {
          label = λ z. view.label z.node z.position;
          child = child_alike;
          parent = parent_alike;
          next = next_alike;
          previous = previous_alike;
        }
