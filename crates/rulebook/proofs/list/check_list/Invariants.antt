-- `rulebook::list::check_list` looks at the records in turn: those that were passed fit.
use Prim.Native.Nat.{ℕ, ◌<◌}
use Rattle.rules.specs.Rules.{RecordFits}
use Rattle.rulebook.proofs.list.check_list.Given as goal

abbrev pub invariant-loop-k : goal.invariant-loop-k
invariant-loop-k l = (j : ℕ) → j < l.k → RecordFits l.rules l.list j
