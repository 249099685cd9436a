-- `end_of`. The loop's invariant: the records passed behind k have their parents at k or behind it.
use Prim.Native.Nat.{ℕ, ◌≤◌, ◌<◌}
use Rattle.tree.specs.Tree.{parent_at}
use Rattle.roll.specs.Roll.{nodes}
use Rattle.roll.proofs.run.end_of.Given as goal

abbrev pub invariant-loop-j : goal.invariant-loop-j
invariant-loop-j l = (m : ℕ) → m < l.j → l.k < m → l.k ≤ parent_at (nodes l.roll) m
