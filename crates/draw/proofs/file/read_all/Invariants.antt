-- `read_all`: what was read fits. The measure is the room that is left, since each turn but the last reads some bytes.
use Rattle.std.proofs.Common.{length, ◌-◌, ◌≤◌}
use Rattle.draw.proofs.file.read_all.Given as goal

abbrev pub invariant-loop-done : goal.invariant-loop-done
invariant-loop-done g l = l.done ≤ length l.buffer

abbrev pub decreases-loop-done : goal.decreases-loop-done
decreases-loop-done g l = length l.initial.buffer - l.done
