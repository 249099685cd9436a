-- `keep`: as many bytes are copied as there are, and no more than show that a line is too long.
use Rattle.std.proofs.Common.{◌+◌, ◌-◌, ◌≡◌, arith, rules}
use Rattle.draw.proofs.Keeping.{kept_front}
use Rattle.draw.proofs.stream.keep.Goals as goal

pub returns : goal.returns
returns c =
    let a = c.args in
    let size : a.from + c.min-kept.result - a.from ≡ c.min-kept.result = omega arith in
    kept_front a.buffer.now a.from a.to c.min-kept.result c.requires.0 c.requires.1 (search rules) (rw size at c.copy_within.ensures.after)
