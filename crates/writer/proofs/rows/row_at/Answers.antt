-- `row_at`: the table has the row.
use mathlib.Core.Path.{◌∙◌}
use Rattle.writer.proofs.RowTable.{row_right}
use Rattle.writer.proofs.rows.row_at.Goals as goal

pub returns-clause-value : goal.returns-clause-value
returns-clause-value c = c.entry.ensures.value ∙ row_right c.args.k c.requires _
