-- `add`. The array is lent as a slice, since that tells its length.
use borrow.Author.Rules.{rules}
use Rattle.sets.proofs.Words.{added}
use Rattle.sets.proofs.build.add.Goals as goal

pub returns : goal.returns
returns c =
    let args = c.args in
    added args.set.now args.k (search rules) c.requires
