-- Who is shown, told by an index of pairs and the answers of filters.
use Rattle.std.specs.Prelude.{ℕ, ◌<◌, ◌≡◌, List, [], slice_index_or, Option, Some, None}
use Rattle.tree.specs.Tree.{Tree, label_at, Child}
use Rattle.sets.specs.Sets.{In, Holds}
use Rattle.visible.specs.Index.{pair_of}

-- what the index says of the pair of p and its child i
abbrev pub row_of : Tree → List (Option ℕ) → ℕ → ℕ → Option ℕ
row_of t index p i = slice_index_or index (pair_of (label_at t p) (label_at t i)) None

pub data Shown (t : Tree) (index : List (Option ℕ)) (answers : List (List ℕ)) : ℕ → Type 0 where
  root : Shown t index answers 0
  -- the pair has a record, which answers for the node
  answered : {p i r : ℕ} → Child t p i → row_of t index p i ≡ Some r → In (slice_index_or answers r []) i → Shown t index answers i
  -- the pair has none
  inherited : {p i : ℕ} → Child t p i → row_of t index p i ≡ None → Shown t index answers p → Shown t index answers i

-- the set holds those of the first n nodes that are shown
abbrev pub ShownTo : Tree → List (Option ℕ) → List (List ℕ) → ℕ → List ℕ → Type 0
ShownTo t index answers n set = Holds (λ i. (i < n) × Shown t index answers i) set

-- every row of the index names one of 32 records
abbrev pub RowsFit : List (Option ℕ) → Type 0
RowsFit index = (k r : ℕ) → slice_index_or index k None ≡ Some r → r < 32
