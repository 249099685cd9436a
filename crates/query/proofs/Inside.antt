-- A path stays inside the tree: from a node it reaches only nodes. Assumes nothing.
use Prim.Native.Nat.{ℕ, ◌<◌}
use mathlib.Core.Path.{◌≡◌, subst}
use mathlib.Core.Logic.{⊎_elim}
use native.Mathlib.Omega.{arith}
use lib.ListN.{length}
use Rattle.tree.specs.Tree.{Tree, parent_at, InOrder}
use Rattle.tree.proofs.Order.{parent_smaller}
use Rattle.query.specs.Syntax.{Path, self, child, parent, next, previous, stay, then, either, star}
use Rattle.query.specs.Meaning.{reach}
use Rattle.query.proofs.Closure.{star_keeps}

module _ (t : Tree) (o : InOrder t) where
  -- what a path reaches from a node is a node
  pub reach_inside : (p : Path) {i j : ℕ} → i < length t → reach t p i j → j < length t
  unfolding reach
  reach_inside self l e = subst (λ (k : ℕ). k < length t) e l
  reach_inside child l c = c.node
  reach_inside parent {i} {j} l c =
      let h : parent_at t i < i = parent_smaller t o i c.later l in
      let e : parent_at t i ≡ j = c.parent in
      omega arith
  reach_inside next l n = n.right.node
  reach_inside previous l n = n.left.node
  reach_inside (stay f) l r = subst (λ (k : ℕ). k < length t) r.0 l
  reach_inside (then p q) l r = reach_inside q (reach_inside p l r.1) r.2
  reach_inside (either p q) l r = ⊎_elim (reach_inside p l) (reach_inside q l) r
  reach_inside (star p) l r = star_keeps (λ (k : ℕ). k < length t) (λ i j. reach_inside p) l r
