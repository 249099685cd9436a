-- `check_roll`. The loop's invariant: the records passed are right.
use Prim.Native.Nat.{ℕ, ◌<◌}
use Rattle.roll.specs.Roll.{NodeRight}
use Rattle.roll.proofs.scan.check_roll.Given as goal

abbrev pub invariant-loop-i : goal.invariant-loop-i
invariant-loop-i l = (k : ℕ) → k < l.i → NodeRight l.roll k
