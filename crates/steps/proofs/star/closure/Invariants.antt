-- `steps::star::closure`: it goes on in a word where a node waits, until none does. The measure is how many have not been gone on from.
use Prim.Native.Nat.{◌-◌}
use Rattle.roll.specs.Roll.{nodes}
use Rattle.sets.proofs.Size.{size_of}
use Rattle.steps.specs.Star.{StepFrom, GoneOn}
use Rattle.steps.proofs.star.closure.Given as goal

abbrev pub invariant-loop-w : goal.invariant-loop-w
invariant-loop-w l =
    GoneOn (StepFrom (nodes l.walk.roll.now) l.walk.axes l.sources) l.initial.set l.initial.gone l.set l.gone

abbrev pub decreases-loop-w : goal.decreases-loop-w
decreases-loop-w l = 4096 - size_of l.gone
