-- `tables::check::check_filters`: 7 for the length, and then what the walk over the entries says.
use native.Mathlib.Omega.{arith}
use mathlib.Core.Path.{refl}
use Rattle.reply.specs.Reply.{said}
use Rattle.tree.proofs.Tests.{test_passed, test_failed}
use Rattle.query.specs.Fault.{filters}
use Rattle.tables.proofs.Outcomes.{entries_within, filter_length, filter_entries}
use Rattle.tables.proofs.check.check_filters.Goals as goal

pub returns-then-not-whole : goal.returns-then-not-whole
returns-then-not-whole c =
    let whole = c.whole in
    rw c.refuse.ensures (filter_length (test_failed whole.result whole.ensures c.if-not-whole.true))

pub check_entries-requires : goal.check_entries-requires
check_entries-requires c =
    omega (arith, entries_within (test_passed c.whole.result c.whole.ensures c.if-not-whole.false))

pub returns : goal.returns
returns c =
    filter_entries (test_passed c.whole.result c.whole.ensures c.if-not-whole.false)
    (said c.check_entries.result) (c.check_entries.ensures filters refl)
