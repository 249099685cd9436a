-- `way`: an axis leads where its path does, and turned round where its path turned round does.
use mathlib.Core.Logic.{⊎_elim}
use Rattle.evaluator.proofs.Walks.{axis_forwards, axis_freely, axis_backwards}
use Rattle.evaluator.proofs.course.way.Goals as goal

pub returns-in-Forwards : goal.returns-in-Forwards
returns-in-Forwards c t = ⊎_elim (λ is. rw is (axis_forwards t c.args.axis)) (λ is. rw is (axis_freely t c.args.axis)) c.in-Forwards.is

pub returns-in-Backwards : goal.returns-in-Backwards
returns-in-Backwards c t = rw c.in-Backwards.is (axis_backwards t c.args.axis c.turned.result (c.turned.ensures t))
