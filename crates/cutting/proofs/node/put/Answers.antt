-- `put`: two stores and a number are a node's bytes.
use Rattle.cutting.proofs.Putting.{stored}
use Rattle.cutting.proofs.node.put.Goals as goal

pub returns : goal.returns
returns c =
    let a = c.args in
    stored a.room.now a.k a.label a.parent c.requires c.put_two_bytes.ensures
