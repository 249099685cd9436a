-- `shown`. The loop's invariant: of the nodes passed, the set has those that are shown.
use Rattle.roll.specs.Roll.{nodes}
use Rattle.visible.specs.Shown.{ShownTo}
use Rattle.visible.proofs.shown.shown.Given as goal

abbrev pub invariant-loop-i : goal.invariant-loop-i
invariant-loop-i l = ShownTo (nodes l.roll) l.index l.answers l.i l.set
