-- `add_children`. The loop's invariant: the next child is a record, and the children before it are added. The measure is how far it is
-- from 65,536, since each link leads on.
use Prim.Native.Nat.{ℕ, ◌-◌, ◌<◌}
use mathlib.Core.Path.{◌≡◌}
use Rattle.std.specs.Prelude.{Some}
use Rattle.tree.specs.Tree.{Child}
use Rattle.roll.specs.Roll.{nodes}
use Rattle.steps.specs.Added.{Added}
use Rattle.steps.proofs.Reaching.{place}
use Rattle.steps.proofs.walk.Walk.add_children.Given as goal

abbrev pub invariant-loop-next : goal.invariant-loop-next
invariant-loop-next l =
    let t = nodes l.self.roll.now in
    ((j : ℕ) → l.next ≡ Some j → (j < 4096) × Child t l.i j) × Added (λ k. Child t l.i k × (k < place l.next)) l.initial.out l.out

abbrev pub decreases-loop-next : goal.decreases-loop-next
decreases-loop-next l = 65536 - place l.next
