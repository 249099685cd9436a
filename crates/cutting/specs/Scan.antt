-- What one scan over a roll has come to: the view of the records passed, and for each of them its place in the view.
use Rattle.std.specs.Prelude.{ℕ, ◌+◌, ◌*◌, ◌<◌, ◌≡◌, List, [], ◌∷◌, ◌++◌, length, get_or, take, drop}
use Rattle.reply.specs.Bytes.{Bytes, Written}
use Rattle.tree.specs.Tree.{Node, Tree, label_at, parent_at}
use Rattle.roll.specs.Roll.{none, node_bytes}
use Rattle.view.specs.View.{Before, Position, Nearest, View}

-- the parent field of record i in the view: the place of its parent
pub data ParentPlace (t : Tree) (places : List ℕ) (i : ℕ) : ℕ → Type 0 where
  root : i ≡ 0 → ParentPlace t places i none
  later : 0 < i → ParentPlace t places i (get_or places (parent_at t i) 0)

module _ (t : Tree) (Seen : ℕ → Type 0) where
  -- the place of record k: its own view position, or that of its nearest visible ancestor
  pub data Placed (k : ℕ) : ℕ → Type 0 where
    own : {q : ℕ} → Position Seen k q → Placed k q
    above : {p q : ℕ} → ¬ Seen k → Nearest t Seen k p → Position Seen p q → Placed k q

  -- the view of the first n records
  pub record ViewTo (n : ℕ) (v : Tree) : Type 0 where
    pub size : Before Seen n (length v)
    pub label : {i k : ℕ} → i < n → Position Seen i k → label_at v k ≡ label_at t i
    pub root : 0 < n → parent_at v 0 ≡ none
    pub parent : {i k p q : ℕ} → i < n → Position Seen i k → Nearest t Seen i p → Position Seen p q → parent_at v k ≡ q

  -- the scan has passed n records and written c of them
  pub record Scanned (n : ℕ) (places : List ℕ) (c : ℕ) (room : Bytes) : Type 0 where
    pub view : Tree
    pub is : ViewTo n view
    pub count : c ≡ length view
    pub front : take (4 * c) room ≡ node_bytes view
    pub placed : (k : ℕ) → k < n → Placed k (get_or places k 0)

  -- the view is in the room, of whichever nodes are visible
  pub record CutOut (before : Bytes) (c : ℕ) (after : Bytes) : Type 0 where
    pub view : Tree
    pub is : View t Seen view
    pub count : c ≡ length view
    pub written : Written before (node_bytes view) after

-- a node is written as record k of the room
pub record NodePut (k : ℕ) (n : Node) (before after : Bytes) : Type 0 where
  pub front : take (4 * (k + 1)) after ≡ take (4 * k) before ++ node_bytes (n ∷ [])
  pub behind : drop (4 * (k + 1)) after ≡ drop (4 * (k + 1)) before
