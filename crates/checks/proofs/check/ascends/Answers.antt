-- `checks::check::ascends` compares parent labels and then child labels.
use Rattle.checks.proofs.Records.{first_above, above_test, pair_less}
use Rattle.checks.proofs.check.ascends.Goals as goal

pub returns-then-i-eq0 : goal.returns-then-i-eq0
returns-then-i-eq0 c = (λ t. first_above c.args.annotation.now c.if-i-eq0.true, λ above. tt)

pub returns : goal.returns
returns c =
    let a = c.args in
    rw (c.lt.ensures, pair_less) (above_test a.annotation.now a.i c.if-i-eq0.false c.record_at-last.ensures c.record_at-own.ensures).exact
