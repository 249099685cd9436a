-- `sets::merge::merge_into`: the words before i are merged, and the others stand as before.
use lib.ListN.{get_or}
use Rattle.sets.proofs.Words.{Written}
use Rattle.sets.proofs.merge.merge_into.Given as goal

abbrev pub invariant-loop-i : goal.invariant-loop-i
invariant-loop-i g l = Written (λ j v. goal.F-post g l.how (get_or l.initial.set j 0) (get_or l.other j 0) v) l.initial.set l.set l.i
