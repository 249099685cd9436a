-- `put_label`: one digit or two.
use borrow.Author.Rules.{rules}
use borrow.Author.Tests.{lt-ltb, le-ltb}
use Rattle.shortest.proofs.Shown.{label_shown}
use Rattle.printer.proofs.Going.{and_then, too_long}
use Rattle.printer.proofs.writing.Writing.put_label.Goals as goal

pub returns-then-label-lt10 : goal.returns-then-label-lt10
unfolding label_shown
returns-then-label-lt10 c = rw (lt-ltb c.args.label 10 (search rules)) c.put.ensures

pub returns-in_err-put : goal.returns-in_err-put
unfolding label_shown
returns-in_err-put c =
    rw (le-ltb c.args.label 10 (search rules)) (too_long c.put-2.ensures _ c.in_err-put.was c.from_residual.ensures.1)

pub returns : goal.returns
unfolding label_shown
returns c =
    rw (le-ltb c.args.label 10 (search rules)) (and_then c.put-2.ensures _ c.in_ok-put.was c.put-3.ensures)
