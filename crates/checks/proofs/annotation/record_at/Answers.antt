-- `checks::annotation::record_at`: record i has the fields of entry i.
use Rattle.checks.proofs.Records.{record_entry}
use Rattle.checks.proofs.annotation.record_at.Goals as goal

pub returns : goal.returns
returns c =
    let a = c.args in
    let six = c.entry_at-six.ensures in
    rw (record_entry a.annotation.now a.i) (record {
      parent = six.kind;
      child = six.label;
      filter = six.left;
      rest = six.right;
    })
