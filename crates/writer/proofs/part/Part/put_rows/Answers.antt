-- `put_rows`. The loop's invariant: the rows passed are written.
use native.Mathlib.Nat.{le_of_lt}
use native.Mathlib.Omega.{arith}
use mathlib.Core.Path.{ap, ◌∙◌}
use Rattle.written.specs.Written.{entry, raise, axis_rows}
use Rattle.writer.proofs.Laying.{lays_none, lays_next, lays_front, lays_all}
use Rattle.writer.proofs.RowTable.{row_right}
use Rattle.writer.proofs.part.Part.put_rows.Goals as goal

pub loop-row-init : goal.loop-row-init
loop-row-init c = lays_none _

pub put-requires : goal.put-requires
unfolding axis_rows
put-requires c =
    let so_far = c.loop-row.invariant in
    record { fits = omega (arith, c.requires.room.fits, lays_front (raise c.args.distance) axis_rows (le_of_lt c.loop-row-test.true) so_far) }

pub loop-row-preserved : goal.loop-row-preserved
unfolding axis_rows
loop-row-preserved c =
    lays_next (raise c.args.distance) axis_rows (entry 0 0 0) c.loop-row-test.true c.loop-row.invariant
    (c.raised.ensures ∙ ap (raise c.args.distance) (c.entry.ensures.value ∙ row_right c.loop-row.row-index c.loop-row-test.true _)) c.put.ensures

pub returns : goal.returns
unfolding axis_rows
returns c = lays_all (raise c.args.distance) axis_rows c.loop-row-test.false c.loop-row.invariant
