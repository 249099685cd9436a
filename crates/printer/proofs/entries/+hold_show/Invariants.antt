-- The measures of the printer's functions, which call each other: the entry number falls, brackets stand above their entry, and two
-- operands below it.
use Prim.Native.Nat.{◌+◌, ◌*◌, max}
use Rattle.printer.proofs.entries.+hold_show.Given as goal

abbrev pub decreases-hold : goal.decreases-hold
decreases-hold l = 3 * l.e + 2

abbrev pub decreases-join : goal.decreases-join
decreases-join l = 3 * max l.left l.right + 3

abbrev pub decreases-show : goal.decreases-show
decreases-show l = 3 * l.e + 1
