-- `add_word`. The loop's invariant: what is added, with what the rest of the word leads to, is what the whole word leads to.
use Rattle.steps.proofs.Members.{so_far, one_more, all_done}
use Rattle.steps.proofs.walk.Walk.add_word.Goals as goal

pub loop-k-init : goal.loop-k-init
loop-k-init c = rw c.into_iter-k-iterator.ensures.into_iter_gives so_far

pub loop-k-preserved : goal.loop-k-preserved
loop-k-preserved c = one_more c.loop-k.invariant c.in-Some.ensures.steps c.add_along.ensures.exact

pub returns : goal.returns
returns c = record { exact = all_done c.loop-k.invariant c.in-None.ensures.steps.0 }
