-- `print_query`: the room, the check of the table, and the text of its last entry, which fits or does not.
use native.Mathlib.Omega.{arith}
use borrow.Author.Rules.{rules}
use mathlib.Core.Path.{◌≡◌, refl}
use lib.ListN.{length}
use Rattle.reply.proofs.Checking.{met, right_counted}
use Rattle.query.specs.Table.{entries}
use Rattle.query.specs.Fault.{curators, Query}
use Rattle.printer.proofs.Calling.{too_short, refused_table, last_within, printed, not_printed}
use Rattle.printer.proofs.print_query.Goals as goal
use Rattle.printer.proofs.print_query.Goals.{In_ok-entries}

-- The table is a query, of so many entries.
checked : (c : In_ok-entries) → Query curators c.args.query.now × (c.in_ok-entries.entries ≡ length (entries c.args.query.now))
checked c = right_counted c.in_ok-entries.was c.check_query.ensures

pub returns-then-room-lt-TEXT_BYTES : goal.returns-then-room-lt-TEXT_BYTES
returns-then-room-lt-TEXT_BYTES c = too_short _ _ (search rules) c.refuse.ensures

pub returns-in_err-entries : goal.returns-in_err-entries
returns-in_err-entries c =
    refused_table _ _ c.in_err-entries.was (met c.from_residual.ensures.1) c.check_query.ensures (search rules)

pub overflow_sub-entries : goal.overflow_sub-entries
overflow_sub-entries c = let (query, count) = checked (goal.at.overflow_sub-entries c).In_ok-entries in omega (arith, last_within query)

pub hold-requires : goal.hold-requires
hold-requires c =
    let (query, count) = checked (goal.at.hold-requires c).In_ok-entries in
    record { order = λ i l. (query.entry i l).right; within = omega (arith, last_within query) }

pub returns-in_default : goal.returns-in_default
returns-in_default c =
    let (query, count) = checked (goal.at.returns-in_default c).In_ok-entries in
    not_printed query c.new-text.ensures (rw count at c.hold.ensures) _ c.in_default.is (search rules) c.refuse-in_default.ensures

pub returns : goal.returns
returns c =
    let (query, count) = checked (goal.at.returns c).In_ok-entries in
    printed query c.new-text.ensures (rw count at c.hold.ensures) _ c.in-Ok.is (search rules) c.written-written.ensures (rw c.copy_from_slice.ensures.after refl)
