-- `checks::check::check_annotation` looks at the records in turn: those that were passed are right.
use native.Mathlib.Omega.{arith}
use borrow.Author.Count.{below_more}
use Rattle.reply.specs.Bytes.{Whole}
use Rattle.reply.proofs.Checking.{met, passes, fails, right_of, passed_up}
use Rattle.tree.proofs.Tests.{test_failed, test_passed}
use Rattle.view.specs.Annotation.{bad_length, bad_record}
use Rattle.checks.proofs.check.check_annotation.Goals as goal
use Rattle.checks.proofs.check.check_annotation.Goals.{Else-not-whole}

-- an annotation whose records are looked at has the length
size : (c : Else-not-whole) → Whole 6 32 c.args.annotation.now
size c = test_passed c.whole.result c.whole.ensures c.if-not-whole.false

pub returns-then-not-whole : goal.returns-then-not-whole
returns-then-not-whole c =
    rw c.refuse.ensures (fails (bad_length (test_failed c.whole.result c.whole.ensures c.if-not-whole.true)))

pub returns-in_err-check_record : goal.returns-in_err-check_record
returns-in_err-check_record c =
    passed_up (λ n p. bad_record (size (goal.at.returns-in_err-check_record c).Else-not-whole))
    c.in_err-check_record.was (met c.from_residual.ensures.1) c.check_record.ensures

pub loop-i-preserved : goal.loop-i-preserved
loop-i-preserved c = below_more _ _ c.loop-i.invariant (right_of c.in_ok-check_record.was c.check_record.ensures)

pub returns : goal.returns
returns c =
    passes (record { size = size (goal.at.returns c).Else-not-whole; each = λ i l. c.loop-i.invariant i (omega arith) }) c.count-n.ensures
