-- `checks::check::check_annotation` looks at the records in turn: those that were passed are right.
use Prim.Native.Nat.{ℕ, ◌<◌}
use Rattle.query.specs.Table.{entries}
use Rattle.view.specs.Annotation.{RecordRight}
use Rattle.checks.proofs.check.check_annotation.Given as goal

abbrev pub invariant-loop-i : goal.invariant-loop-i
invariant-loop-i l = (k : ℕ) → k < l.i → RecordRight (entries l.filters) l.annotation k
