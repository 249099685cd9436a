-- `rulebook::check_rules`: the lengths of both, then the entries, then the records of the list.
use mathlib.Core.Logic.{◌↔◌}
use mathlib.Core.Bool.{◌&&◌}
use lib.Dec.{T}
use Rattle.reply.specs.Bytes.{Whole}
use Rattle.reply.proofs.Checking.{fails, met, right_of, passed_up, checked_as}
use Rattle.tree.proofs.Tests.{Decides, and_test, same_test, test_passed, test_failed}
use Rattle.tables.proofs.Outcomes.{entries_within}
use Rattle.rules.specs.Rules.{RulesLength, bad_length, bad_entry, bad_record}
use Rattle.rulebook.proofs.check_rules.Goals as goal
use Rattle.rulebook.proofs.check_rules.Goals.{After-whole-2, Else-not-sized}

exact : (c : After-whole-2) → let a = c.args in T (c.whole.result && c.whole-2.result) ↔ RulesLength a.rules.now a.list.now
exact c =
    let a = c.args in
    let entries : Decides c.whole.result (Whole 6 256 a.rules.now) = record { exact = c.whole.ensures } in
    let list : Decides c.whole-2.result (Whole 4 64 a.list.now) = record { exact = c.whole-2.ensures } in
    (same_test (and_test entries list)
    (λ p. record { of_entries = p.0; of_list = p.1 }, λ (h : RulesLength a.rules.now a.list.now). (h.of_entries, h.of_list))
    ).exact

size : (c : Else-not-sized) → let a = c.args in RulesLength a.rules.now a.list.now
size c =
    let exact : (let a = c.args in T (c.whole.result && c.whole-2.result) ↔ RulesLength a.rules.now a.list.now) = let a = c.args in
    let entries : Decides c.whole.result (Whole 6 256 a.rules.now) = record { exact = c.whole.ensures } in
    let list : Decides c.whole-2.result (Whole 4 64 a.list.now) = record { exact = c.whole-2.ensures } in
    (same_test (and_test entries list)
    (λ p. record { of_entries = p.0; of_list = p.1 }, λ (h : RulesLength a.rules.now a.list.now). (h.of_entries, h.of_list))
    ).exact in
    test_passed (c.whole.result && c.whole-2.result) exact c.if-not-sized.false

pub returns-then-not-sized : goal.returns-then-not-sized
returns-then-not-sized c =
    rw c.refuse.ensures (fails (bad_length (test_failed (c.whole.result && c.whole-2.result) (exact (goal.at.returns-then-not-sized c).After-whole-2) c.if-not-sized.true)))

pub check_entries-requires : goal.check_entries-requires
check_entries-requires c = entries_within (size c).of_entries

pub returns-in_err-check_entries : goal.returns-in_err-check_entries
returns-in_err-check_entries c =
    passed_up (λ n p. bad_entry (size (goal.at.returns-in_err-check_entries c).Else-not-sized))
    c.in_err-check_entries.was (met c.from_residual.ensures.1) c.check_entries.ensures

pub returns : goal.returns
returns c =
    let fits = right_of c.in_ok-check_entries.was c.check_entries.ensures in
    let length = size (goal.at.returns c).Else-not-sized in
    checked_as (λ each. record { size = length; entry = fits; each = each }) (λ n p. bad_record length fits) c.check_list.ensures
