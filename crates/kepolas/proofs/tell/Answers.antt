-- `tell`: in each case the two numbers say what the reply says.
use Prim.Native.Nat.{ℕ}
use mathlib.Core.Path.{sym, ap, ◌∙◌}
use Rattle.reply.specs.Reply.{said}
use Rattle.kepolas.specs.Told.{heard}
use Rattle.kepolas.proofs.Refusals.{heard_refused}
use Rattle.kepolas.proofs.tell.Goals as goal

pub returns-in-Err : goal.returns-in-Err
returns-in-Err c =
    let refusal = c.in-Err.refusal in
    ap (λ (n : ℕ). heard n refusal.place) c.number_of.ensures ∙ heard_refused refusal.reason ∙ sym (ap said c.in-Err.is)
