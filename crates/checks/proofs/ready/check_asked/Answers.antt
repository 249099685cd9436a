-- `checks::ready::check_asked` checks filter table and annotation, and then the query.
use Rattle.reply.proofs.Checking.{met, right_of}
use Rattle.checks.proofs.Turns.{first_refused, rest_checked}
use Rattle.checks.proofs.ready.check_asked.Goals as goal

pub returns-in_err-check_annotated : goal.returns-in_err-check_annotated
returns-in_err-check_annotated c = first_refused c.in_err-check_annotated.was (met c.from_residual.ensures.1) c.check_annotated.ensures

pub returns : goal.returns
returns c =
    let annotated = right_of c.in_ok-check_annotated.was c.check_annotated.ensures in
    rest_checked annotated (λ query. (annotated, query)) c.check_query.ensures
