-- `tables::order::entry_right`: it makes the tests of an entry's fields, those of its operands where the kind and the label are right.
use mathlib.Core.Bool.{◌&&◌}
use Rattle.tree.proofs.Tests.{test_passed, test_failed}
use Rattle.tables.proofs.Deciding.{kind_test, order_parts}
use Rattle.tables.proofs.order.entry_right.Goals as goal

pub returns-then-not-listed-label : goal.returns-then-not-listed-label
returns-then-not-listed-label c =
    let label = c.label_right-label in
    let head = kind_test _ _ _ _ c.entry_at-entry.ensures c.shape_of-shape.ensures label.result c.is_some-listed.ensures label.ensures in
    let parts = order_parts _ _ _ _ c.entry_at-entry.ensures c.shape_of-shape.ensures in
    (absurd, λ right. test_failed (c.is_some-listed.result && label.result) head c.if-not-listed-label.true (parts.1 right).0.0)

pub returns-then-operand_right : goal.returns-then-operand_right
returns-then-operand_right c =
    let label = c.label_right-label in
    let head = kind_test _ _ _ _ c.entry_at-entry.ensures c.shape_of-shape.ensures label.result c.is_some-listed.ensures label.ensures in
    let parts = order_parts _ _ _ _ c.entry_at-entry.ensures c.shape_of-shape.ensures in
    let listed = test_passed (c.is_some-listed.result && label.result) head c.if-not-listed-label.false in
    let left = test_passed c.operand_right.result c.operand_right.ensures c.if-operand_right.true in
    let right = c.operand_right-then-operand_right.ensures in
    (λ t. parts.0 ((listed, left), right.0 t), λ all. right.1 (parts.1 all).1)

pub returns-else-operand_right : goal.returns-else-operand_right
returns-else-operand_right c =
    let parts = order_parts _ _ _ _ c.entry_at-entry.ensures c.shape_of-shape.ensures in
    let left = c.operand_right in
    (λ t. absurd (test_failed left.result left.ensures c.if-operand_right.false (left.ensures.0 t)), λ all. left.ensures.1 (parts.1 all).0.1)
