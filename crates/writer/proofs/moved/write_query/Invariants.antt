-- `write_query`. The loop's invariant: what stands for the first i entries is written.
use mathlib.Core.List.{map}
use lib.ListN.{take}
use Rattle.query.specs.Table.{entries}
use Rattle.written.specs.Written.{view_entry}
use Rattle.writer.specs.Laid.{Lays}
use Rattle.writer.proofs.moved.write_query.Given as goal

abbrev pub invariant-loop-i : goal.invariant-loop-i
invariant-loop-i l = Lays l.initial.part (map (view_entry l.axes l.distance) (take l.i (entries l.query))) l.part
