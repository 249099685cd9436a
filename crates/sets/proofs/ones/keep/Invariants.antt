-- `keep`: the bits passed are kept where the test came out true.
use Rattle.sets.proofs.Keeping.{KeptSoFar}
use Rattle.sets.proofs.ones.keep.Given as goal

abbrev pub invariant-loop-k : goal.invariant-loop-k
invariant-loop-k g l = KeptSoFar (goal.F-post g l.holds) l.word l.kept l.k-iterator.0
