-- `put_rows`. The loop's invariant: the rows passed are written.
use mathlib.Core.List.{map}
use lib.ListN.{take}
use Rattle.written.specs.Written.{raise, axis_rows}
use Rattle.writer.specs.Laid.{Lays}
use Rattle.writer.proofs.part.Part.put_rows.Given as goal

abbrev pub invariant-loop-row : goal.invariant-loop-row
invariant-loop-row l = Lays l.initial.self (map (raise l.distance) (take l.row-index axis_rows)) l.self
