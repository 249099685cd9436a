-- The measures of the evaluation's functions, which call each other: the entry number falls, and a star and what it is made of stand above
-- their path. Between two rounds `Rounds` holds, and each round adds a node to those gone on from.
use Prim.Native.Nat.{◌+◌, ◌-◌, ◌*◌}
use lib.ListN.{length}
use Rattle.roll.specs.Roll.{nodes}
use Rattle.query.specs.Meaning.{reach}
use Rattle.sets.proofs.Size.{size_of}
use Rattle.evaluator.specs.Evaluation.{goes}
use Rattle.evaluator.proofs.Rounds.{Rounds}
use Rattle.evaluator.proofs.evaluation.Evaluation.+walk.Given as goal

abbrev pub decreases-by_rounds : goal.decreases-by_rounds
decreases-by_rounds l = 4 * l.e + 1

abbrev pub decreases-sources : goal.decreases-sources
decreases-sources l = 4 * l.e + 1

abbrev pub decreases-image : goal.decreases-image
decreases-image l = 4 * l.e

abbrev pub decreases-narrow : goal.decreases-narrow
decreases-narrow l = 4 * l.e

abbrev pub decreases-of_two : goal.decreases-of_two
decreases-of_two l = 4 * l.e + 1

abbrev pub decreases-star : goal.decreases-star
decreases-star l = 4 * l.e + 3

abbrev pub decreases-at_once : goal.decreases-at_once
decreases-at_once l = 4 * l.e + 2

abbrev pub invariant-by_rounds-loop-course : goal.invariant-by_rounds-loop-course
invariant-by_rounds-loop-course l =
    Rounds (length (nodes l.self.roll.now)) (reach (nodes l.self.roll.now) (goes l.self l.e l.course)) l.initial.fresh l.all l.fresh

abbrev pub decreases-by_rounds-loop-course : goal.decreases-by_rounds-loop-course
decreases-by_rounds-loop-course l = 4096 - size_of l.all
