-- `checks::annotation::count`: a record is as long as an entry.
use mathlib.Core.Path.{sym, ◌∙◌}
use Rattle.checks.proofs.Records.{records_length}
use Rattle.checks.proofs.annotation.count.Goals as goal

pub returns : goal.returns
returns c = c.count.ensures ∙ sym (records_length c.args.annotation.now)
