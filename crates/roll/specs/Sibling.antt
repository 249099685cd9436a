-- What an answer says of the previous sibling of record j: the record whose next sibling j is, or that there is none.
use Rattle.std.specs.Prelude.{ℕ, Option, Some, None}
use Rattle.tree.specs.Tree.{Tree, Next}

abbrev pub PreviousIs : Tree → ℕ → Option ℕ → Type 0
PreviousIs t j (Some i) = Next t i j
PreviousIs t j None = (i : ℕ) → ¬ Next t i j
