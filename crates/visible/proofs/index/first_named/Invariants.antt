-- `first_named`. The loop's invariant: no record passed names the filter.
use Prim.Native.Nat.{ℕ, ◌<◌}
use mathlib.Core.Path.{◌≡◌}
use Rattle.view.specs.Annotation.{records, record_at}
use Rattle.visible.proofs.index.first_named.Given as goal

abbrev pub invariant-loop-s : goal.invariant-loop-s
invariant-loop-s l = (k : ℕ) → k < l.s → ¬ ((record_at (records l.annotation) k).filter ≡ l.wanted)
