-- `unreadable`: the line that is written is the front of the buffer.
use native.Mathlib.Omega.{arith}
use Rattle.io.proofs.Counting.{length-take_of_le}
use Rattle.draw.proofs.stream.unreadable.Goals as goal

pub slice_bounds-write_all-end : goal.slice_bounds-write_all-end
slice_bounds-write_all-end c =
    let line = c.write_line-size in
    length-take_of_le _ _ (omega (arith, line.ensures.count, line.ensures.written.room, line.auto.out))
