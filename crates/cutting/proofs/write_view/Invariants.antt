-- `write_view`. The loop's invariant: the view of the records passed stands in front of the room, and behind it the room
-- is as before.
use Rattle.roll.specs.Roll.{nodes}
use Rattle.sets.specs.Sets.{In}
use Rattle.cutting.specs.Passing.{Passed, RestKept}
use Rattle.cutting.proofs.write_view.Given as goal

abbrev pub invariant-loop-i : goal.invariant-loop-i
invariant-loop-i l = record { scanned : Passed (nodes l.roll) (In l.seen) l.i l.scan; rest : RestKept l.initial.scan.room l.scan }
