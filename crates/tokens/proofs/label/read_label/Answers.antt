-- `read_label`: no label without a digit from 1 to 9, two digits where they make a label, and else one.
use mathlib.Core.Logic.{inl, inr}
use native.Mathlib.Omega.{arith}
use Rattle.tokens.proofs.Labels.{no_label, one_read, two_read}
use Rattle.tokens.proofs.label.read_label.Goals as goal
use Rattle.tokens.proofs.label.read_label.Goals.{in-Some+else-both-le64, in_default}

pub returns-in_err-tens : goal.returns-in_err-tens
returns-in_err-tens c = rw c.from_residual.ensures (no_label _ _ (inl (rw c.byte_at.ensures at c.in_err-tens.ensures)))

pub returns-then-tens-eq0 : goal.returns-then-tens-eq0
returns-then-tens-eq0 c = no_label _ _ (inr (rw (c.if-tens-eq0.true, c.byte_at.ensures) at c.in_ok-tens.ensures))

pub returns-then-both-le64 : goal.returns-then-both-le64
returns-then-both-le64 c =
    two_read _ _ _ (rw c.byte_at.ensures at c.in_ok-tens.ensures) c.if-tens-eq0.false _ (rw c.byte_at-2.ensures at c.in-Some.ensures)
    c.if-both-le64.true

pub returns : goal.returns
returns c =
    one_read _ _ _ (rw c.byte_at.ensures at c.in_ok-tens.ensures) c.if-tens-eq0.false
    (elim c.match-digit.branch [
      | in-Some+else-both-le64 w ↦ inr (_, rw c.byte_at-2.ensures at w.in-Some.ensures, omega arith)
      | in_default w ↦ inl (rw c.byte_at-2.ensures at w.in_default.ensures)
    ])
