-- `tables::height::operand_height`: an unused operand has the height 0, and a used one the height that was noted for it.
use mathlib.Core.Path.{refl}
use borrow.Author.Rules.{rules}
use Rattle.query.specs.Table.{operand_height}
use Rattle.tables.proofs.height.operand_height.Goals as goal

pub returns-in-None : goal.returns-in-None
unfolding operand_height
returns-in-None c = rw c.in-None.is refl

pub returns-in-Some : goal.returns-in-Some
unfolding operand_height
returns-in-Some c = rw c.in-Some.is (search rules)
