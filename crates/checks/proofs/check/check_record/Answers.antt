-- `checks::check::check_record`: each test is one part of a record that is right, and a refusal is the first part that fails.
use mathlib.Core.Path.{refl}
use Rattle.reply.proofs.Checking.{passes, lowest_refused}
use Rattle.tree.proofs.Tests.{test_failed, test_passed}
use Rattle.query.specs.Table.{entries}
use Rattle.view.specs.Annotation.{records, record_at, RecordForm, malformed, not_above}
use Rattle.checks.proofs.check.check_record.Goals as goal
use Rattle.checks.proofs.check.check_record.Goals.{Else-not-formed}

-- a record that comes to the second test has the form
formed : (c : Else-not-formed)
    → let a = c.args in
    RecordForm (entries a.filters.now) (record_at (records a.annotation.now) a.i)
formed c = test_passed c.form_fits-formed.result c.form_fits-formed.ensures c.if-not-formed.false

pub returns-then-not-formed : goal.returns-then-not-formed
returns-then-not-formed c =
    lowest_refused c.requires.i_in_bounds c.requires.by_index
    (malformed (test_failed c.form_fits-formed.result c.form_fits-formed.ensures c.if-not-formed.true)) c.refuse.ensures

pub returns-then-not-above : goal.returns-then-not-above
returns-then-not-above c =
    lowest_refused c.requires.i_in_bounds c.requires.by_index
    (not_above (formed (goal.at.returns-then-not-above c).Else-not-formed) (test_failed c.ascends-above.result c.ascends-above.ensures c.if-not-above.true))
    c.refuse-then-not-above.ensures

pub returns : goal.returns
returns c =
    passes (record {
      form = formed (goal.at.returns c).Else-not-formed;
      ascends = test_passed c.ascends-above.result c.ascends-above.ensures c.if-not-above.false;
    }) refl
