-- `steps::star::first_waiting`: the words before w have no node that waits.
use native.Mathlib.Omega.{arith}
use borrow.Author.Count.{below_more}
use Rattle.sets.proofs.Digits.{lowest, none_of_zero}
use Rattle.steps.specs.Star.{Waits}
use Rattle.steps.proofs.Going.{none_in_words}
use Rattle.steps.proofs.star.first_waiting.Goals as goal

pub loop-w-init : goal.loop-w-init
loop-w-init c w l = absurd (omega arith)

pub returns-then-waiting-ne0 : goal.returns-then-waiting-ne0
returns-then-waiting-ne0 c =
    let found = c.waiting in
    let (low, one) = lowest found.result c.if-waiting-ne0.true found.ensures.fits in
    (_, omega arith, low, (found.ensures.each _ low).0 one)

pub loop-w-preserved : goal.loop-w-preserved
loop-w-preserved c =
    below_more _ _ c.loop-w.invariant (λ k l p. none_of_zero k c.if-waiting-ne0.false ((c.waiting.ensures.each k l).1 p))

pub returns : goal.returns
returns c =
    let a = c.args in
    none_in_words (Waits a.set.now a.sources.now a.gone.now) (λ w k h. c.loop-w.invariant w (omega arith) k)
