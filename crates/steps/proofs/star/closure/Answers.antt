-- `steps::star::closure`: it goes on in a word where a node waits, until none does. The measure is how many have not been gone on from.
use native.Mathlib.Nat.{lt_of_lt_of_le}
use native.Mathlib.Omega.{arith}
use Rattle.sets.proofs.Size.{size_most}
use Rattle.roll.proofs.Deciding.{roll_in_order, roll_most}
use Rattle.steps.proofs.SeveralAxes.{any_node}
use Rattle.steps.proofs.Going.{not_gone, gone_further, all_gone, gone_word, none_waits}
use Rattle.steps.proofs.star.closure.Goals as goal

pub loop-w-init : goal.loop-w-init
loop-w-init c = not_gone

pub loop-w-smaller : goal.loop-w-smaller
loop-w-smaller c =
    let more = gone_word c.in-Some.ensures c.go_on.ensures.gone_on c.go_on.ensures.by_index in
    omega (arith, more, size_most c.go_on.new.gone)

pub loop-w-preserved : goal.loop-w-preserved
loop-w-preserved c = gone_further c.loop-w.invariant c.go_on.ensures.gone_on

pub returns : goal.returns
returns c =
    let given = c.requires.0 in
    all_gone c.empty-gone.ensures c.loop-w.invariant
    (λ i j x r. none_waits c.in_default.ensures i (lt_of_lt_of_le (any_node _ (roll_in_order given) r.leads) (roll_most given)) x r.source)
