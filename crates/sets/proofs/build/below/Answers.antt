-- `below`: each word passed has its share of the numbers below n.
use native.Mathlib.Nat.{lt_of_lt_of_le}
use native.Mathlib.Omega.{arith}
use mathlib.Core.Path.{refl}
use Rattle.sets.proofs.Words.{none_made, one_made, all_made}
use Rattle.sets.proofs.build.below.Goals as goal

pub loop-i-init : goal.loop-i-init
loop-i-init c = none_made _

pub loop-i-preserved : goal.loop-i-preserved
loop-i-preserved c = one_made c.loop-i.invariant (omega arith) (record { exact = c.share.ensures })

pub returns : goal.returns
returns c = all_made c.loop-i.invariant refl c.loop-i-test.false (λ k l. lt_of_lt_of_le l c.requires)
