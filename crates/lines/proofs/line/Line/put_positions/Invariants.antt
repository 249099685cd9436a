-- `put_positions`: the positions before this one are written.
use Rattle.lines.specs.Line.{spaced, positions}
use Rattle.lines.specs.Put.{Wrote}
use Rattle.lines.proofs.line.Line.put_positions.Given as goal

abbrev pub invariant-loop-k : goal.invariant-loop-k
invariant-loop-k l = Wrote l.initial.self (spaced (positions l.map l.k)) l.self
