-- `checks::check::form_fits` makes the tests of a record's fields, and no others.
use Rattle.query.specs.Table.{entries}
use Rattle.checks.proofs.Records.{form_test}
use Rattle.checks.proofs.check.form_fits.Goals as goal

pub returns : goal.returns
returns c =
    (form_test (entries c.args.filters.now) c.record_at-own.ensures (record { exact = c.is_label.ensures })
    (record { exact = c.is_label-2.ensures }) (record { exact = c.has_sort.ensures })).exact
