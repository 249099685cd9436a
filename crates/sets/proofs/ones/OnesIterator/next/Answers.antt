-- `Ones::next`: a word that is not 0 has a lowest digit that is 1, and is less without it.
use borrow.Author.Rules.{rules}
use Rattle.sets.proofs.Digits.{take_lowest}
use Rattle.sets.proofs.ones.OnesIterator.next.Goals as goal

pub returns-clause-steps : goal.returns-clause-steps
returns-clause-steps c = take_lowest _ c.if-self-eq0.false (search rules)

pub returns-clause-goes : goal.returns-clause-goes
returns-clause-goes c = let less = (take_lowest _ c.if-self-eq0.false (search rules)).less in search rules
