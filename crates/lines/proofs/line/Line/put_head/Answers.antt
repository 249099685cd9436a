-- `put_head`: the letter, and the number behind it.
use native.Mathlib.Omega.{arith}
use Rattle.lines.proofs.Putting.{wrote_then}
use Rattle.lines.proofs.line.Line.put_head.Goals as goal

pub returns : goal.returns
returns c = (wrote_then c.put_byte.ensures c.put_number.ensures.0, omega (arith, c.put_byte.ensures.put.end))
