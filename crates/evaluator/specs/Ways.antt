-- Paths that lead along axes.
use Rattle.std.specs.Prelude.{ℕ, ◌↔◌, Option, Some, None}
use Rattle.tree.specs.Tree.{Tree}
use Rattle.query.specs.Syntax.{Path}
use Rattle.query.specs.Meaning.{reach}
use Rattle.steps.specs.Axis.{AlongAny}
use Rattle.steps.specs.declared.axis.Axes.{Axes}

-- where axes are given, the path leads where a step along one of them does
abbrev pub Leads : Path → Option Axes → Type 0
Leads p (Some axes) = (t : Tree) (i j : ℕ) → AlongAny t axes i j ↔ reach t p i j
Leads p None = Unit {0}
