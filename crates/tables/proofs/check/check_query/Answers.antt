-- `tables::check::check_query`: 12 for the length, then what the walk over the entries refuses, then 12 for the last
-- entry.
use Prim.Native.Nat.{ℕ}
use native.Mathlib.Omega.{arith}
use mathlib.Core.Path.{refl}
use mathlib.Core.Bool.{◌&&◌}
use lib.Dec.{ltb}
use lib.ListN.{length}
use Rattle.reply.proofs.Checking.{met}
use Rattle.tree.proofs.Tests.{test_passed, test_failed}
use Rattle.query.specs.Fault.{Limits, QueryLength}
use Rattle.tables.proofs.Deciding.{length_test}
use Rattle.tables.proofs.Outcomes.{entries_within, query_length, query_entry, query_some, query_path, query_no_path}
use Rattle.tables.proofs.check.check_query.Goals as goal
use Rattle.tables.proofs.check.check_query.Goals.{Else-not-fits}

abbrev limits : ℕ → ℕ → Limits
limits entries height = record { entries = entries; height = height }

size : (c : Else-not-fits) → QueryLength (limits c.args.entries c.args.height) c.args.table.now
size c =
    test_passed (ltb 0 (length c.args.table.now) && c.whole.result)
    (length_test (limits c.args.entries c.args.height) c.args.table.now (record { exact = c.whole.ensures })).exact c.if-not-fits.false

pub returns-then-not-fits : goal.returns-then-not-fits
returns-then-not-fits c =
    rw c.refuse.ensures
    (query_length (test_failed (ltb 0 (length c.args.table.now) && c.whole.result)
    (length_test (limits c.args.entries c.args.height) c.args.table.now (record { exact = c.whole.ensures })).exact c.if-not-fits.true))

pub check_entries-requires : goal.check_entries-requires
check_entries-requires c = omega (arith, entries_within (size c).size)

pub returns-in_err-n : goal.returns-in_err-n
returns-in_err-n c =
    query_entry (size (goal.at.returns-in_err-n c).Else-not-fits) c.check_entries.result (c.check_entries.ensures _ refl) c.in_err-n.was
    (met c.from_residual.ensures.1)

pub overflow_sub-last : goal.overflow_sub-last
overflow_sub-last c =
    query_some (size (goal.at.overflow_sub-last c).Else-not-fits) c.check_entries.result (c.check_entries.ensures _ refl) c.in_ok-n.n
    c.in_ok-n.was

pub returns-then-has_sort : goal.returns-then-has_sort
returns-then-has_sort c =
    query_path (size (goal.at.returns-then-has_sort c).Else-not-fits) c.check_entries.result (c.check_entries.ensures _ refl) c.in_ok-n.n
    c.in_ok-n.was (test_passed c.has_sort.result c.has_sort.ensures c.if-has_sort.true)

pub returns : goal.returns
returns c =
    rw c.refuse-2.ensures
    (query_no_path (size (goal.at.returns c).Else-not-fits) c.check_entries.result (c.check_entries.ensures _ refl) c.in_ok-n.n
    c.in_ok-n.was (test_failed c.has_sort.result c.has_sort.ensures c.if-has_sort.false))
