-- Ordered labelled trees (source document 000), as tables of nodes in document order.
use Rattle.std.specs.Prelude.{ℕ, suc, ◌≤◌, ◌<◌, ◌≡◌, List, length, get_or}

-- "label (1 to 64)"
pub record Label (l : ℕ) : Type 0 where
  pub least : 1 ≤ l
  pub most : l ≤ 64

-- A node has a label and the record number of its parent.
pub record Node : Type 0 where
  pub label : ℕ
  pub parent : ℕ

abbrev pub Tree : Type 0
Tree = List Node

abbrev nowhere : Node
nowhere = record { label = 0; parent = 0 }

unfoldable pub label_at : Tree → ℕ → ℕ
label_at t i = (get_or t i nowhere).label

unfoldable pub parent_at : Tree → ℕ → ℕ
parent_at t i = (get_or t i nowhere).parent

-- j is a child of i. "Record 0 is the root": it is nobody's child.
pub record Child (t : Tree) (i j : ℕ) : Type 0 where
  pub later : 0 < j
  pub node : j < length t
  pub parent : parent_at t j ≡ i

-- j is the next sibling of i: "siblings are ordered by record number", and no sibling stands between.
pub record Next (t : Tree) (i j : ℕ) : Type 0 where
  pub above : ℕ
  pub left : Child t above i
  pub right : Child t above j
  pub order : i < j
  pub between : (m : ℕ) → i < m → m < j → ¬ Child t above m

-- p is i or an ancestor of i.
pub data Above (t : Tree) (p : ℕ) : ℕ → Type 0 where
  here : Above t p p
  up : {i : ℕ} → 0 < i → Above t p (parent_at t i) → Above t p i

-- "For each later record i the parent p is either i − 1 or an ancestor of i − 1. So the table is in document order."
unfoldable pub InOrder : Tree → Type 0
InOrder t = (i : ℕ) → suc i < length t → Above t (parent_at t (suc i)) i

-- j is in the run of k, which is "a record and all its descendants".
pub record InRun (t : Tree) (k j : ℕ) : Type 0 where
  pub node : j < length t
  pub below : Above t k j

-- The run of k is the records from k up to e, e itself not among them.
pub record RunEnds (t : Tree) (k e : ℕ) : Type 0 where
  pub inside : (j : ℕ) → k ≤ j → j < e → InRun t k j
  pub outside : (j : ℕ) → InRun t k j → (k ≤ j) × (j < e)
