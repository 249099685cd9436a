-- `raised_operand`: by cases on whether the field is used.
use mathlib.Core.Path.{refl}
use Rattle.written.specs.Written.{moved}
use Rattle.writer.proofs.entry.raised_operand.Goals as goal

pub returns-in-None : goal.returns-in-None
unfolding moved
returns-in-None c = rw c.in-None.is refl

pub returns-in-Some : goal.returns-in-Some
unfolding moved
returns-in-Some c = rw c.in-Some.is refl
