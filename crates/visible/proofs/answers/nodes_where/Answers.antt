-- `nodes_where`: the filter narrows the set of all nodes. Of no filter it is known beforehand where it holds.
use Rattle.roll.proofs.Deciding.{roll_most}
use Rattle.visible.proofs.answers.nodes_where.Goals as goal

pub below-all-requires : goal.below-all-requires
below-all-requires c = rw c.count.ensures (roll_most c.requires.0.roll_right)
