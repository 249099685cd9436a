-- `tables::kinds::row_of`: the constant table is computed once from the list of kinds.
use borrow.Author.Rules.{rules}
use Rattle.query.specs.Kind.{kinds, find}
use Rattle.tables.proofs.KindTable.{fields_of, table_right, no_kind}
use Rattle.tables.proofs.kinds.row_of.Goals as goal

pub returns-then-kind-lt23 : goal.returns-then-kind-lt23
unfolding fields_of kinds find
returns-then-kind-lt23 c = table_right c.args.kind _ (search rules)

pub returns-else-kind-lt23 : goal.returns-else-kind-lt23
returns-else-kind-lt23 c = no_kind c.args.kind (search rules)
