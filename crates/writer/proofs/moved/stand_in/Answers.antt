-- `stand_in`: each arm is what is chosen for its kind.
use mathlib.Core.Path.{ap, ◌∙◌}
use Rattle.written.specs.Written.{raise, chosen, view_entry}
use Rattle.writer.proofs.Moving.{others}
use Rattle.writer.proofs.moved.stand_in.Goals as goal

pub returns-in-Child : goal.returns-in-Child
unfolding view_entry chosen
returns-in-Child c = rw c.in-Child.is (c.raised.ensures ∙ ap (raise c.args.axes) c.row_at.ensures.value)

pub returns-in-Parent : goal.returns-in-Parent
unfolding view_entry chosen
returns-in-Parent c = rw c.in-Parent.is (c.raised-in-Parent.ensures ∙ ap (raise c.args.axes) c.row_at-in-Parent.ensures.value)

pub returns-in-Next : goal.returns-in-Next
unfolding view_entry chosen
returns-in-Next c = rw c.in-Next.is (c.raised-in-Next.ensures ∙ ap (raise c.args.axes) c.row_at-in-Next.ensures.value)

pub returns-in-Previous : goal.returns-in-Previous
unfolding view_entry chosen
returns-in-Previous c = rw c.in-Previous.is (c.raised-in-Previous.ensures ∙ ap (raise c.args.axes) c.row_at-in-Previous.ensures.value)

pub returns-in_default : goal.returns-in_default
unfolding view_entry
returns-in_default c =
    let arm = c.in_default in
    c.raised-in_default.ensures ∙ others c.args.axes _ c.args.own.kind arm.not-Child arm.not-Parent arm.not-Next arm.not-Previous
