-- `put_decimal`: by its own call the digits of the number's tenth are written, and one more stands behind them.
use native.Mathlib.Omega.{arith}
use Rattle.lines.proofs.Putting.{wrote_then}
use Rattle.lines.proofs.Numbers.{decimal_small, decimal_large, one_digit, one_digit_more}
use Rattle.lines.proofs.line.Line.+put_decimal.Goals.{then-n-ge10, else-n-ge10}
use Rattle.lines.proofs.line.Line.+put_decimal.Goals as goal

pub put_decimal-requires : goal.put_decimal-requires
put_decimal-requires t c = let room = c.requires in (omega arith, omega (arith, one_digit_more c.args.n c.if-n-ge10.true))

pub put_byte-requires : goal.put_byte-requires
put_byte-requires t c = elim c.if-n-ge10.branch [
  | then-n-ge10 w ↦ rw w.self-is (omega (arith, c.requires, one_digit_more c.args.n w.if-n-ge10.true))
  | else-n-ge10 w ↦ rw w.self-is (omega (arith, c.requires, one_digit c.args.n w.if-n-ge10.false))
]

pub returns : goal.returns
returns t c = elim c.if-n-ge10.branch [
  | then-n-ge10 w ↦ rw (decimal_large c.args.n w.if-n-ge10.true) (wrote_then w.put_decimal.ensures (rw w.self-is at c.put_byte.ensures))
  | else-n-ge10 w ↦ rw (decimal_small c.args.n w.if-n-ge10.false) (rw w.self-is at c.put_byte.ensures)
]
