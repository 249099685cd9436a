-- `is_front_empty`: a set that stands in its first word is asked of that word alone.
use mathlib.Core.Logic.Iff
use borrow.Author.Rules.{rules}
use Rattle.tree.proofs.Tests.{equal_test}
use Rattle.sets.proofs.Words.{no_first}
use Rattle.sets.proofs.test.is_front_empty.Goals as goal

pub returns-then-words-eq1 : goal.returns-then-words-eq1
returns-then-words-eq1 c =
    let args = c.args in
    Iff.trans (equal_test _ 0).exact (no_first args.set.now args.words (search rules) c.requires c.fits-set)
