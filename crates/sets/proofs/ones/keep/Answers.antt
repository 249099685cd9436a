-- `keep`: the bits passed are kept where the test came out true.
use Rattle.sets.proofs.Keeping.{none_kept, one_kept, one_left, all_kept}
use Rattle.sets.proofs.ones.keep.Goals as goal

pub loop-k-init : goal.loop-k-init
loop-k-init g c = rw c.into_iter-k-iterator.ensures.into_iter_gives none_kept

pub loop-k-preserved-then-holds : goal.loop-k-preserved-then-holds
loop-k-preserved-then-holds g c = one_kept c.loop-k.invariant c.in-Some.ensures.steps (rw c.if-holds.true at c.holds.ensures)

pub loop-k-preserved : goal.loop-k-preserved
loop-k-preserved g c = one_left c.loop-k.invariant c.in-Some.ensures.steps (rw c.if-holds.false at c.holds.ensures)

pub returns : goal.returns
returns g c = all_kept c.loop-k.invariant c.in-None.ensures.steps.0
