-- `tables::order::label_right`: an unused label is 0, and a used one is a label.
use Rattle.tree.proofs.Tests.{equal_test}
use Rattle.query.specs.Table.{LabelField}
use Rattle.tables.proofs.order.label_right.Goals as goal

pub returns-then-used : goal.returns-then-used
unfolding LabelField
returns-then-used c = rw c.if-used.true c.is_label.ensures

pub returns-else-used : goal.returns-else-used
unfolding LabelField
returns-else-used c = rw c.if-used.false (equal_test c.args.label 0).exact
