-- `answer_lines`: what was read so far is answered. The measure is what is left of the input.
use Prim.Native.Nat.{◌-◌}
use lib.ListN.{length}
use Rattle.draw.specs.Drawn.{LineFor}
use Rattle.draw.proofs.Drawing.{Going}
use Rattle.draw.proofs.line.Archive.answer_lines.Given as goal

abbrev pub invariant-loop-out : goal.invariant-loop-out
invariant-loop-out l =
    let files = l.self in
    Going (LineFor files.roll.now files.view.now files.filters.now) l.input l.initial.out l.read l.written l.out

abbrev pub decreases-loop-out : goal.decreases-loop-out
decreases-loop-out l = length l.input - l.read
