-- `is_at_hand`: the filter itself is told, or what it says the contrary of.
use Rattle.evaluator.specs.AtHand.{denied}
use Rattle.evaluator.proofs.at_hand.is_at_hand.Goals as goal

pub returns-in-Not : goal.returns-in-Not
returns-in-Not c t = denied c.in-Not.ensures.1 (c.is_told-in-Not.ensures.0 t)
