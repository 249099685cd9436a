-- `closed`: behind what was read stands the closing byte or another, and a stop is passed up.
use mathlib.Core.Path.{sym, ◌∙◌}
use Rattle.reply.proofs.Checking.{met}
use Rattle.tokens.specs.Reading.{closed_by, open_at, passed_by}
use Rattle.tokens.proofs.answer.closed.Goals as goal

pub returns-in_err-at : goal.returns-in_err-at
returns-in_err-at c = rw (c.in_err-at.was, met c.from_residual.ensures.1) passed_by

pub returns-then-byte_at-close : goal.returns-then-byte_at-close
returns-then-byte_at-close c = rw c.in_ok-at.was (closed_by (sym c.byte_at.ensures ∙ c.if-byte_at-close.true))

pub returns : goal.returns
returns c = rw c.in_ok-at.was (open_at (λ e. c.if-byte_at-close.false (c.byte_at.ensures ∙ e)))
