-- `tables::order::operand_right`: an unused operand is 0, and a used one is an earlier entry of its sort.
use native.Mathlib.Omega.{arith}
use Rattle.query.specs.Table.{OperandField}
use Rattle.tree.proofs.Tests.{less_test, equal_test}
use Rattle.tables.proofs.order.operand_right.Goals as goal

pub returns-in-None : goal.returns-in-None
unfolding OperandField
returns-in-None c = rw c.in-None.is (equal_test c.args.number 0).exact

pub returns-then-number-i : goal.returns-then-number-i
unfolding OperandField
returns-then-number-i c = rw c.in-Some.is (λ t. (c.if-number-i.true, c.has_sort.ensures.0 t), λ p. c.has_sort.ensures.1 p.1)

pub returns-else-number-i : goal.returns-else-number-i
unfolding OperandField
returns-else-number-i c =
    rw c.in-Some.is (λ t. absurd (omega (arith, (less_test c.args.number c.args.i).exact.0 t)), λ p. absurd (omega (arith, p.0)))
