-- `stays_at_hand`: a path that stays by a filter stays where it is.
use Rattle.evaluator.proofs.Walks.{stay_still}
use Rattle.evaluator.proofs.at_hand.stays_at_hand.Goals as goal

pub returns-in-Stay : goal.returns-in-Stay
returns-in-Stay c t course = rw c.in-Stay.ensures.1 (stay_still course _)
