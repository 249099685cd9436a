-- The view of a tree, given which of its nodes are visible.
use Rattle.std.specs.Prelude.{ℕ, suc, ◌<◌, ◌≡◌, length}
use Rattle.tree.specs.Tree.{Tree, label_at, parent_at, Child}
use Rattle.roll.specs.Roll.{none}

-- k visible records stand before record i.
pub data Before (Seen : ℕ → Type 0) : ℕ → ℕ → Type 0 where
  start : Before Seen 0 0
  seen : {i k : ℕ} → Seen i → Before Seen i k → Before Seen (suc i) (suc k)
  hidden : {i k : ℕ} → ¬ Seen i → Before Seen i k → Before Seen (suc i) k

-- "Its nodes are the visible ones in document order, numbered from 0 as view positions": i is visible, at position k.
pub record Position (Seen : ℕ → Type 0) (i k : ℕ) : Type 0 where
  pub visible : Seen i
  pub before : Before Seen i k

-- p is i's "nearest visible proper ancestor".
pub data Nearest (t : Tree) (Seen : ℕ → Type 0) : ℕ → ℕ → Type 0 where
  parent : {p i : ℕ} → Child t p i → Seen p → Nearest t Seen i p
  beyond : {q p i : ℕ} → Child t q i → ¬ Seen q → Nearest t Seen q p → Nearest t Seen i p

-- "The view is itself a node table of the form above", so its root has no parent.
pub record View (t : Tree) (Seen : ℕ → Type 0) (v : Tree) : Type 0 where
  pub size : Before Seen (length t) (length v)
  pub label : {i k : ℕ} → i < length t → Position Seen i k → label_at v k ≡ label_at t i
  pub root : parent_at v 0 ≡ none
  -- "A node's parent in the view is its nearest visible proper ancestor."
  pub parent : {i k p q : ℕ} → Position Seen i k → Nearest t Seen i p → Position Seen p q → parent_at v k ≡ q
