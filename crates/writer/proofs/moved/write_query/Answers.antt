-- `write_query`. The loop's invariant: what stands for the first i entries is written.
use native.Mathlib.Omega.{arith}
use mathlib.Core.Path.{ap, ◌∙◌}
use Rattle.query.specs.Table.{entries, entry_at}
use Rattle.written.specs.Written.{entry, view_entry}
use Rattle.writer.proofs.Laying.{lays_none, lays_next, lays_front}
use Rattle.writer.proofs.moved.write_query.Goals as goal

pub loop-i-init : goal.loop-i-init
loop-i-init c = lays_none _

pub put-requires : goal.put-requires
put-requires c =
    let a = c.args in
    let so_far = c.loop-i.invariant in
    record { fits = omega (arith, c.requires.room.fits, lays_front (view_entry a.axes a.distance) (entries a.query.now) (omega arith) so_far) }

pub loop-i-preserved : goal.loop-i-preserved
unfolding entry_at
loop-i-preserved c =
    let a = c.args in
    lays_next (view_entry a.axes a.distance) (entries a.query.now) (entry 0 0 0) (omega arith) c.loop-i.invariant
    (c.stand_in.ensures ∙ ap (view_entry a.axes a.distance) c.own_entry-own.ensures.value) c.put.ensures
