-- `below`: each word passed has its share of the numbers below n.
use Prim.Native.Nat.{◌<◌}
use Rattle.sets.proofs.Words.{Made}
use Rattle.sets.proofs.build.below.Given as goal

abbrev pub invariant-loop-i : goal.invariant-loop-i
invariant-loop-i l = Made 64 (λ k. k < l.n) l.initial.word-items l.word-items l.i
