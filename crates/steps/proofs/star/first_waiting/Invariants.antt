-- `steps::star::first_waiting`: the words before w have no node that waits.
use Prim.Native.Nat.{ℕ, ◌+◌, ◌*◌, ◌<◌}
use Rattle.steps.specs.Star.{Waits}
use Rattle.steps.proofs.star.first_waiting.Given as goal

abbrev pub invariant-loop-w : goal.invariant-loop-w
invariant-loop-w l = (w : ℕ) → w < l.w → (k : ℕ) → k < 64 → ¬ Waits l.set l.sources l.gone (64 * w + k)
