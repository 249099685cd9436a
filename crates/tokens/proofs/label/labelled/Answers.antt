-- `labelled`: the entry of the label that is read, or a stop where there is none.
use Rattle.tokens.proofs.Labels.{not_numbered, number_follows}
use Rattle.tokens.proofs.label.labelled.Goals as goal

pub returns-in_default : goal.returns-in_default
returns-in_default c = not_numbered c.in_default.ensures c.requires.within

pub returns : goal.returns
returns c = number_follows c.in-Some.ensures c.leaf.ensures
