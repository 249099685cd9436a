-- `put_decimal`: the measure is the number.
use Rattle.lines.proofs.line.Line.+put_decimal.Given as goal

abbrev pub decreases-put_decimal : goal.decreases-put_decimal
decreases-put_decimal l = l.n
