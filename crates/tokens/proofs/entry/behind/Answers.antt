-- `behind`: an entry behind its operand, which says where its own entries end; a stop is passed up.
use Rattle.reply.proofs.Checking.{met}
use Rattle.tokens.specs.Reading.{behind, passed_on}
use Rattle.tokens.proofs.entry.behind.Goals as goal

pub returns-in_err-at : goal.returns-in_err-at
returns-in_err-at c = rw (c.in_err-at.was, met c.from_residual.ensures.1) passed_on

pub returns : goal.returns
returns c = rw c.in_ok-at.was (behind c.put.ensures)
