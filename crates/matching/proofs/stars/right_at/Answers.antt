-- `right_at`: an entry in order is found to be so.
use Rattle.matching.proofs.Passing.{found}
use Rattle.matching.proofs.stars.right_at.Goals as goal

pub unwrap-requires : goal.unwrap-requires
unwrap-requires c = found c.rule_at.result c.requires c.rule_at.ensures
