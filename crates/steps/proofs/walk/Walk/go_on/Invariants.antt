-- `go_on`: each turn goes on from the lowest node that waits, so what has been gone on from grows.
use Prim.Native.Nat.{◌-◌}
use mathlib.Core.Path.{◌≡◌}
use lib.ListN.{length}
use Rattle.roll.specs.Roll.{nodes}
use Rattle.sets.proofs.Size.{size_of}
use Rattle.steps.specs.Star.{StepFrom, GoneOn}
use Rattle.steps.proofs.walk.Walk.go_on.Given as goal

abbrev pub invariant-loop-k : goal.invariant-loop-k
invariant-loop-k l =
    GoneOn (StepFrom (nodes l.self.roll.now) l.self.axes l.sources) l.initial.set l.initial.gone l.set l.gone × (length l.gone ≡ 64)

abbrev pub decreases-loop-k : goal.decreases-loop-k
decreases-loop-k l = 4096 - size_of l.gone
