-- `tables::entry::put`: two stores and two numbers are the bytes of an entry.
use Rattle.tables.proofs.Entries.{stored}
use Rattle.tables.proofs.entry.put.Goals as goal

pub returns : goal.returns
returns c =
    let a = c.args in
    stored a.table.now a.i a.kind a.label a.left a.right c.put_two_bytes.ensures
    c.put_two_bytes-2.ensures
