-- `check_nodes`: the children of the nodes that have been passed are allowed.
use Prim.Native.Nat.{ℕ, ◌<◌}
use mathlib.Core.Path.{◌≡◌}
use lib.ListN.{length}
use Rattle.roll.specs.Roll.{nodes}
use Rattle.rules.specs.Rules.{Allowed}
use Rattle.content.proofs.check_nodes.Given as goal

abbrev pub invariant-loop-i : goal.invariant-loop-i
invariant-loop-i l = (length l.kept ≡ 32) × ((k : ℕ) → k < l.i → Allowed l.rules l.list (nodes l.roll) k)
