-- `climb`. The loop's invariant: the climb has come to a record behind the one wanted, on the way from its start
-- upwards. The measure is the record's number, since parents are smaller.
use Prim.Native.Nat.{◌<◌}
use mathlib.Core.Path.{◌≡◌}
use Rattle.tree.specs.Tree.{parent_at, Above}
use Rattle.roll.specs.Roll.{nodes}
use Rattle.roll.proofs.climb.climb.Given as goal

abbrev pub invariant-loop-parent : goal.invariant-loop-parent
invariant-loop-parent l = Above (nodes l.roll) l.at l.start × (l.wanted < l.at) × (l.parent ≡ parent_at (nodes l.roll) l.at)

abbrev pub decreases-loop-parent : goal.decreases-loop-parent
decreases-loop-parent l = l.at
