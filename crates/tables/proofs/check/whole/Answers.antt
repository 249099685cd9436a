-- `tables::check::whole`: the length is a multiple of a record's, and there are not too many records.
use Rattle.tables.proofs.Deciding.{whole_test}
use Rattle.tables.proofs.check.whole.Goals as goal

pub returns : goal.returns
returns g c = (whole_test g.row.SIZE c.args.records c.args.table.now).exact
