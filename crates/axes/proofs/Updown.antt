-- Parent and child in the view: what `up` and `down` reach on the tree. Assumes nothing.
use Prim.Native.Nat.{ℕ, ◌<◌}
use mathlib.Core.Path.{refl}
use mathlib.Core.Logic.Iff
use mathlib.Core.Logic.{◌↔◌}
use lib.ListN.{length}
use Rattle.tree.specs.Tree.{Tree, Child, InOrder}
use Rattle.tree.proofs.Order.{child_node}
use Rattle.query.specs.Syntax.{Path, Filter, child, then}
use Rattle.query.specs.Meaning.{Star, stop, step, reach, holds}
use Rattle.view.specs.View.{Nearest, parent, beyond}
use Rattle.view.proofs.Nearest.{nearest_node}
use Rattle.axes.proofs.Formulas.{hidden, up, down}

module _ (t : Tree) (o : InOrder t) (Seen : ℕ → Type 0) (dec : (i : ℕ) → Dec (Seen i)) (root : Seen 0)
    (vis : Filter) (right : (i : ℕ) → i < length t → holds t vis i ↔ Seen i) where
  -- the filter tells whether the parent of a child is visible
  parent_right : {q i : ℕ} → Child t q i → holds t vis q ↔ Seen q
  parent_right c = right _ (child_node t o c)

  -- up through hidden nodes to a visible one: that is the nearest
  risen : {q i j : ℕ} → Child t q i → Star (reach t (then (hidden vis) Path.parent)) q j → holds t vis j → Nearest t Seen i j
  unfolding reach
  risen c stop v = parent c ((parent_right c).0 v)
  risen c (step (k, (e, h), d) more) v = beyond c ((Iff.not (parent_right c)).0 h) (risen (rw e d) more v)

  -- and to the nearest there is such a way
  rising : {i j : ℕ} → Nearest t Seen i j → reach t (up vis) i j
  unfolding reach up
  rising (parent c s) = (_, c, (_, stop, (refl, (parent_right c).1 s)))
  rising (beyond c h x) =
      let (q, d, (j, more, last)) = rising x in
      (_, c, (j, step (_, (refl, (Iff.not (parent_right c)).1 h), d) more, last))

  -- the parent in the view
  pub up_reaches : {i j : ℕ} → i < length t → reach t (up vis) i j ↔ Nearest t Seen i j
  unfolding reach up
  up_reaches l = (λ (q, c, (k, more, (e, v))). rw e at (risen c more v), rising)

  -- down through hidden nodes the nearest stays
  descended : {i k j : ℕ} → Nearest t Seen k i → Star (reach t (then (hidden vis) child)) k j → Nearest t Seen j i
  unfolding reach
  descended x stop = x
  descended x (step (m, (e, h), c) more) = descended (beyond (rw e c) ((Iff.not (right _ (nearest_node x))).0 h) x) more

  -- and there is such a way, from a child of the nearest
  descending : {i k j : ℕ} → Nearest t Seen k i → Star (reach t (then (hidden vis) child)) k j
      → (c : ℕ) × Child t i c × Star (reach t (then (hidden vis) child)) c j
  unfolding reach
  descending (parent c s) more = (_, c, more)
  descending (beyond c h x) more = descending x (step (_, (refl, (Iff.not (parent_right c)).1 h), c) more)

  -- the children in the view
  pub down_reaches : {i j : ℕ} → i < length t → Seen i → reach t (down vis) i j ↔ ((j < length t) × Seen j × Nearest t Seen j i)
  unfolding reach down
  down_reaches {i} {j} l s = (there, back)
    where
      there : reach t (down vis) i j → (j < length t) × Seen j × Nearest t Seen j i
      there (c, d, (k, more, (e, v))) =
          let x : Nearest t Seen j i = rw e at (descended (parent d s) more) in
          (nearest_node x, (right j (nearest_node x)).0 (rw e at v), x)

      back : (j < length t) × Seen j × Nearest t Seen j i → reach t (down vis) i j
      back (m, v, x) =
          let (c, d, more) = descending x stop in
          (c, d, (j, more, (refl, (right j m).1 v)))
