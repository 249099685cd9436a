-- `checks::ready::check_annotated` checks the filter table, and then the annotation against it.
use Rattle.reply.proofs.Checking.{met, right_of}
use Rattle.view.specs.Promise.{AnnotatedFault}
use Rattle.checks.proofs.Turns.{first_refused, rest_checked}
use Rattle.checks.proofs.ready.check_annotated.Goals as goal

pub returns-in_err-check_filters : goal.returns-in_err-check_filters
unfolding AnnotatedFault
returns-in_err-check_filters c = first_refused c.in_err-check_filters.was (met c.from_residual.ensures.1) c.check_filters.ensures

pub returns : goal.returns
unfolding AnnotatedFault
returns c =
    let table = right_of c.in_ok-check_filters.was c.check_filters.ensures in
    rest_checked table (λ records. record { table = table; records = records }) c.check_annotation.ensures
