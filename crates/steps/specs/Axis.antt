-- The four axes of a tree, and where a step along one leads, or along one of several.
use Rattle.std.specs.Prelude.{ℕ, Bool, T}
use Rattle.tree.specs.Tree as tree
use Rattle.tree.specs.Tree.{Tree}
use Rattle.steps.specs.declared.axis.Axis.{Axis}
use Rattle.steps.specs.declared.axis.Axis.TheVariants.{Child, Parent, Next, Previous}
use Rattle.steps.specs.declared.axis.Axes.{Axes}

-- a step along the axis leads from i to j
abbrev pub Along : Tree → Axis → ℕ → ℕ → Type 0
Along t Child i j = tree.Child t i j
Along t Parent i j = tree.Child t j i
Along t Next i j = tree.Next t i j
Along t Previous i j = tree.Next t j i

-- whether the axis is one of those
abbrev pub takes : Axes → Axis → Bool
takes axes Child = axes.child
takes axes Parent = axes.parent
takes axes Next = axes.next
takes axes Previous = axes.previous

-- a step along one of the axes leads from i to j
abbrev pub AlongAny : Tree → Axes → ℕ → ℕ → Type 0
AlongAny t axes i j = (axis : Axis) × T (takes axes axis) × Along t axis i j
