-- `step`. The loop's invariant: the set holds what the members in the words passed lead to.
use Prim.Native.Nat.{◌*◌}
use Rattle.roll.specs.Roll.{nodes}
use Rattle.sets.specs.Sets.{Holds}
use Rattle.steps.specs.Axis.{AlongAny}
use Rattle.steps.proofs.Members.{FromBelow}
use Rattle.steps.proofs.along.step.Given as goal

abbrev pub invariant-loop-w : goal.invariant-loop-w
invariant-loop-w l = Holds (FromBelow (AlongAny (nodes l.walk.roll.now) l.walk.axes) l.fn.from (64 * l.w)) l.out
