-- `check_roll`. A refusal of a record is passed up: the records before it are right.
use native.Mathlib.Omega.{arith}
use borrow.Author.Count.{below_more}
use Rattle.reply.proofs.Checking.{met, right_of, passed_up}
use Rattle.tree.proofs.Tests.{test_failed, test_passed}
use Rattle.roll.specs.Roll.{RollLength, bad_node}
use Rattle.roll.specs.Promise.{RollChecked}
use Rattle.roll.proofs.Checking.{length_refused, roll_counted}
use Rattle.roll.proofs.scan.check_roll.Goals as goal
use Rattle.roll.proofs.scan.check_roll.Goals.{Else-not-length_fits}

-- a table whose records are looked at has a roll's length
size : (c : Else-not-length_fits) → RollLength c.args.roll.now
size c = test_passed c.length_fits.result c.length_fits.ensures c.if-not-length_fits.false

pub returns-then-not-length_fits : goal.returns-then-not-length_fits
returns-then-not-length_fits c =
    length_refused c.args.roll.now c.refuse.ensures
    (test_failed c.length_fits.result c.length_fits.ensures c.if-not-length_fits.true)

pub returns-in_err-check_node : goal.returns-in_err-check_node
unfolding RollChecked
returns-in_err-check_node c =
    passed_up (λ n p. bad_node (size (goal.at.returns-in_err-check_node c).Else-not-length_fits))
    c.in_err-check_node.was (met c.from_residual.ensures.1) c.check_node.ensures

pub loop-i-preserved : goal.loop-i-preserved
loop-i-preserved c = below_more _ _ c.loop-i.invariant (right_of c.in_ok-check_node.was c.check_node.ensures)

pub returns : goal.returns
returns c = roll_counted c.args.roll.now (size (goal.at.returns c).Else-not-length_fits) c.count-n.ensures (λ k l. c.loop-i.invariant k (omega arith))
