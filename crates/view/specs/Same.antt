-- Demand 3 for one tree: a path on the tree does what another path does on the view.
use Rattle.std.specs.Prelude.{ℕ, ◌<◌, ◌↔◌, length}
use Rattle.tree.specs.Tree.{Tree}
use Rattle.query.specs.Syntax.{Path}
use Rattle.query.specs.Meaning.{reach}
use Rattle.view.specs.View.{Position}

-- From every visible node, it reaches exactly what her query reaches on the cut-out view, and no hidden node: p on the tree t does
-- what q does on the view v. The node i at view position a leads to j exactly where j is visible and its position is reached from a.
unfoldable pub SameOnView : Tree → (ℕ → Type 0) → Tree → Path → Path → Type 0
SameOnView t Seen v p q =
    (i a j : ℕ) → i < length t → Position Seen i a → reach t p i j ↔ ((b : ℕ) × (j < length t) × Position Seen j b × reach v q a b)
