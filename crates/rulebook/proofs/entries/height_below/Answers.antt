-- `rulebook::entries::height_below`: an entry is one higher than the higher of its operands.
use mathlib.Core.Path.{refl}
use Rattle.rulebook.proofs.Heights.{of_none, of_two, grown}
use Rattle.rulebook.proofs.entries.height_below.Goals as goal

pub returns-in-Empty : goal.returns-in-Empty
returns-in-Empty c = grown c.args.rule c.args.heights.now c.requires.right (of_none c.args.heights.now c.in-Empty.is)

pub returns-in-Star : goal.returns-in-Star
returns-in-Star c = grown c.args.rule c.args.heights.now c.requires.right (rw c.in-Star.is refl)

pub returns-in-Then : goal.returns-in-Then
returns-in-Then c = grown c.args.rule c.args.heights.now c.requires.right (of_two c.args.heights.now c.in-Then.is c.max.ensures)
