-- `put`: what is laid behind the entries is added to them.
use Rattle.tokens.specs.Reading.{one}
use Rattle.tokens.proofs.Stores.{added}
use Rattle.tokens.proofs.entry.put.Goals as goal

pub returns : goal.returns
returns c = let a = c.args in added (one a.kind a.label a.left a.right) c.requires c.put.ensures
