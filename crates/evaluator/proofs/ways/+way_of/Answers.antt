-- `way_of`: a choice of two leads along the axes of either.
use mathlib.Core.Path.{subst}
use Rattle.query.specs.Syntax.{Path}
use Rattle.std.specs.Prelude.{Some}
use Rattle.evaluator.specs.Ways.{Leads}
use Rattle.evaluator.proofs.Stepping.{choice_leads}
use Rattle.evaluator.proofs.Walks.{facing_either}
use Rattle.evaluator.proofs.ways.+way_of.Goals as goal

pub returns-in_ok-other-in-Either : goal.returns-in_ok-other-in-Either
returns-in_ok-other-in-Either t c =
    rw c.in-Either.ensures.1
    (subst (λ (p : Path). Leads p (Some c.both.result)) (facing_either c.args.course _ _)
    (choice_leads _ _ c.in_ok-one-in-Either.ensures c.in_ok-other-in-Either.ensures c.both.ensures))
