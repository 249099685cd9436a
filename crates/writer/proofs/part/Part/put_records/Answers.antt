-- `put_records`. The loop's invariant: the records from i on are written.
use Rattle.writer.proofs.Recording.{none_recorded, one_recorded}
use Rattle.writer.proofs.part.Part.put_records.Goals as goal

pub loop-i-init : goal.loop-i-init
loop-i-init c = none_recorded c.requires.opened c.count-i.ensures

pub loop-i-preserved : goal.loop-i-preserved
loop-i-preserved c = one_recorded c.requires.opened c.loop-i-test.true c.record_at-own.ensures c.loop-i.invariant
    (rw c.nine-all.ensures at c.put_all.ensures)
