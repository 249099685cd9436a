-- `rulebook::list::ascends`: no record stands before the first, and a later one is compared with the one before.
use Rattle.rules.specs.Rules.{listed}
use Rattle.rulebook.proofs.Listed.{first_above, above_test}
use Rattle.rulebook.proofs.list.ascends.Goals as goal

pub returns-then-k-eq0 : goal.returns-then-k-eq0
returns-then-k-eq0 c = (λ t. first_above (listed c.args.list.now) c.if-k-eq0.true, λ above. tt)

pub returns : goal.returns
returns c =
    let a = c.args in
    (above_test (listed a.list.now) a.k c.if-k-eq0.false c.label_at.ensures c.label_at-2.ensures).exact
