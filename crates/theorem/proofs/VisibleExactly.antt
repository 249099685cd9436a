-- The law that the filter for visible holds exactly at the visible nodes of every tree in document order. Assumes nothing.
use Prim.Native.Nat.{ℕ, ◌<◌}
use mathlib.Core.Path.{◌≡◌, sym, subst}
use mathlib.Core.Logic.{◌↔◌}
use mathlib.Core.List.{List}
use lib.ListN.{length}
use Rattle.tree.specs.Tree.{Tree, Child, InOrder}
use Rattle.tree.proofs.Order.{child_node}
use Rattle.query.specs.Syntax.{parent, stay, then, not, leads, or}
use Rattle.query.specs.Meaning.{Star, stop, step, reach, holds}
use Rattle.view.specs.Annotation.{Rule}
use Rattle.view.specs.Visible.{Visible, inherits}
use Rattle.theorem.proofs.VisibleFilter.{some_of, pair_of, showing, climbing, visible_by, some_of_lem, owned, visible_shown, shown_here}

module _ (t : Tree) where
  -- from a node, up a climb that ends at a node that is shown
  climbed : (o : InOrder t) (rules : List Rule) {i k : ℕ} → i < length t → Star (reach t (then (stay (not (some_of pair_of rules))) parent)) i k
      → holds t (or (not (leads parent)) (some_of showing rules)) k → Visible t rules i
  unfolding holds
  climbed o rules {i} l stop at = shown_here t rules i l at
  climbed o rules {i} l (step {k = p} (m, (e, free), c) up) at =
      let child : Child t p i = subst (λ (x : ℕ). Child t p x) (sym e) c in
      inherits child (λ f r. free ((some_of_lem t pair_of rules i).1 (_, r, owned t child r))) (climbed o rules (child_node t o child) up at)

  -- the filter holds exactly at the visible nodes
  pub visible_right : (o : InOrder t) (rules : List Rule) (i : ℕ) → i < length t → holds t (visible_by rules) i ↔ Visible t rules i
  unfolding visible_by climbing holds
  visible_right o rules i l = (λ (j, (k, up, at)). climbed o rules l up at.1, visible_shown t)
