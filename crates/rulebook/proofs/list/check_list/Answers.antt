-- `rulebook::list::check_list` looks at the records in turn: those that were passed fit.
use native.Mathlib.Omega.{arith}
use Rattle.tree.proofs.Tests.{test_failed}
use Rattle.rulebook.proofs.Walk.{all_fit, misfit}
use Rattle.rulebook.proofs.list.check_list.Goals as goal

pub returns-then-not-record_fits : goal.returns-then-not-record_fits
returns-then-not-record_fits c =
    misfit c.loop-k.invariant (omega arith)
    (test_failed c.record_fits.result c.record_fits.ensures c.if-not-record_fits.true) c.refuse.ensures

pub returns : goal.returns
returns c = all_fit c.loop-k.invariant (omega arith) c.count-n.ensures
