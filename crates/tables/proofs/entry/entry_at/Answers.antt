-- `tables::entry::entry_at`: the bytes read are those of the entry.
use Rattle.tables.proofs.Entries.{fields_read, fields_none}
use borrow.Author.Rules.{rules}
use Rattle.tables.proofs.entry.entry_at.Goals as goal

pub returns-then-table-i : goal.returns-then-table-i
returns-then-table-i c = fields_none c.args.table.now c.args.i _ (search rules) c.default.ensures

pub returns : goal.returns
returns c =
    let a = c.args in
    fields_read a.table.now a.i _ (search rules) c.from.ensures c.from-2.ensures
    c.number_at.ensures c.number_at-2.ensures
