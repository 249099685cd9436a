-- `tables::entry::count`: a sixth of the bytes, as there are six for an entry.
use mathlib.Core.Path.{sym}
use Rattle.query.proofs.Tables.{entries_length}
use Rattle.tables.proofs.entry.count.Goals as goal

pub returns : goal.returns
returns c = sym (entries_length c.args.table.now)
