-- The previous sibling in the view: `backwards` is `forwards` turned round. Assumes nothing.
use Prim.Native.Nat.{ℕ, ◌<◌}
use mathlib.Core.Path.{refl}
use mathlib.Core.Logic.{◌↔◌}
use lib.ListN.{length}
use Rattle.tree.specs.Tree.{Tree, InOrder}
use Rattle.query.specs.Syntax.{Filter, child, parent, next, previous, then, either}
use Rattle.query.specs.Meaning.{reach, holds}
use Rattle.query.proofs.Inside.{reach_inside}
use Rattle.view.proofs.Nearest.{NextSeen}
use Rattle.axes.proofs.Formulas.{no, hidden, skip, onwards, forwards, back, backwards}
use Rattle.query.specs.Turn.{turn}
use Rattle.query.proofs.Turn.{Turned, turn_right, then_turned, either_turned, star_turned}
use Rattle.axes.proofs.Sideways.{forwards_reaches}

-- three relations one after another, grouped to the left, may be grouped to the right
regrouped : {P Q R S : ℕ → ℕ → Type 0} → Turned S (λ i j. (m : ℕ) × ((k : ℕ) × P i k × Q k m) × R m j)
    → Turned S (λ i j. (k : ℕ) × P i k × ((m : ℕ) × Q k m × R m j))
regrouped e i j = (
  λ (k, p, (m, q, r)). (e i j).0 (m, (k, p, q), r),
  λ s. let (m, (k, p, q), r) = (e i j).1 s in (k, p, (m, q, r)),
)

module _ (t : Tree) (vis : Filter) where
  -- `back` is `skip` turned round
  back_turned : Turned (reach t (skip vis)) (reach t (back vis))
  unfolding reach turn skip back
  back_turned = then_turned (star_turned (regrouped (turn_right t (then (no next) (then parent (hidden vis)))))) (turn_right t next)

  -- and a step of `backwards` is `onwards` turned round
  onwards_turned : Turned (reach t (onwards vis)) (reach t (then (either (then (no previous) parent) (then (back vis) (no child))) (hidden vis)))
  unfolding reach turn onwards
  onwards_turned =
      let first = turn_right t (then child (no previous)) in
      let leaf = then_turned (turn_right t (no child)) back_turned in
      then_turned (turn_right t (hidden vis)) (either_turned first leaf)

module _ (t : Tree) (o : InOrder t) (Seen : ℕ → Type 0) (dec : (i : ℕ) → Dec (Seen i)) (root : Seen 0)
    (vis : Filter) (right : (i : ℕ) → i < length t → holds t vis i ↔ Seen i) where
  -- the previous sibling in the view
  pub backwards_reaches : {i j : ℕ} → i < length t → Seen i → reach t (backwards vis) i j ↔ (NextSeen t Seen j i × Seen j × (j < length t))
  unfolding reach forwards backwards
  backwards_reaches {i} {j} l s = (there, again)
    where
      there : reach t (backwards vis) i j → NextSeen t Seen j i × Seen j × (j < length t)
      there r =
          let (k, more, (m, b, (e, v))) = r in
          let node = reach_inside t o (backwards vis) l r in
          let seen = (right j node).0 (rw e at v) in
          let first = rw e at ((back_turned t vis k m).0 b) in
          let rest = (star_turned (onwards_turned t vis) i k).0 more in
          ((forwards_reaches t o Seen dec root vis right node seen).0 (k, first, (i, rest, (refl, (right i l).1 s))), seen, node)

      again : NextSeen t Seen j i × Seen j × (j < length t) → reach t (backwards vis) i j
      again (n, seen, node) =
          let (k, first, (m, rest, (e, v))) = (forwards_reaches t o Seen dec root vis right node seen).1 n in
          let more = (star_turned (onwards_turned t vis) i k).1 (rw e at rest) in
          (k, more, (j, (back_turned t vis k j).1 first, (refl, (right j node).1 seen)))
