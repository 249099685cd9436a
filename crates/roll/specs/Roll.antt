-- Node tables: which bytes are a roll, the tree that they are, and the fault that any other bytes have.
use Rattle.std.specs.Prelude.{ℕ, zero, suc, ◌+◌, ◌*◌, ◌≤◌, ◌<◌, ◌≡◌, [], ◌∷◌, ◌++◌, length, get_or}
use Rattle.reply.specs.Bytes.{Bytes, two, two_bytes, Whole}
use Rattle.reply.specs.Outcome.{Lowest}
use Rattle.tree.specs.Tree.{Label, Tree, label_at, parent_at, Above}

-- "Record 0 is the root; its parent field is 65,535."
abbrev pub none : ℕ
none = 65535

-- "Node, 4 bytes: label (1 to 64), a zero byte, parent's record number (two bytes)."
unfoldable pub nodes : Bytes → Tree
nodes [] = []
nodes (a ∷ []) = []
nodes (a ∷ b ∷ []) = []
nodes (a ∷ b ∷ c ∷ []) = []
nodes (label ∷ zero_byte ∷ low ∷ high ∷ more) = record { label = label; parent = two low high } ∷ nodes more

-- A tree written as a node table.
unfoldable pub node_bytes : Tree → Bytes
node_bytes [] = []
node_bytes (n ∷ more) = n.label ∷ 0 ∷ two_bytes n.parent ++ node_bytes more

abbrev pub second_byte : Bytes → ℕ → ℕ
second_byte b i = get_or b (4 * i + 1) 0

-- "For each later record i the parent p is either i − 1 or an ancestor of i − 1."
unfoldable pub ParentRule : Tree → ℕ → Type 0
ParentRule t zero = parent_at t 0 ≡ none
ParentRule t (suc i) = Above t (parent_at t (suc i)) i

pub record NodeRight (b : Bytes) (i : ℕ) : Type 0 where
  pub label : Label (label_at (nodes b) i)
  pub second : second_byte b i ≡ 0
  pub parent : ParentRule (nodes b) i

-- "A roll has 1 to 4,096 nodes."
pub record RollLength (b : Bytes) : Type 0 where
  pub some : 1 ≤ length b
  pub size : Whole 4 4096 b

pub record Roll (b : Bytes) : Type 0 where
  pub size : RollLength b
  pub node : (i : ℕ) → i < length (nodes b) → NodeRight b i

-- 3, 4 and 5, in this order within a record.
pub data NodeFault (b : Bytes) : ℕ → ℕ → Type 0 where
  label : {i : ℕ} → ¬ Label (label_at (nodes b) i) → NodeFault b 3 i
  second : {i : ℕ} → Label (label_at (nodes b) i) → ¬ (second_byte b i ≡ 0) → NodeFault b 4 i
  parent : {i : ℕ} → Label (label_at (nodes b) i) → second_byte b i ≡ 0 → ¬ ParentRule (nodes b) i → NodeFault b 5 i

-- "roll (2, then lowest record, in it 3, 4, 5)"
pub data RollFault (b : Bytes) : ℕ → ℕ → Type 0 where
  bad_length : ¬ RollLength b → RollFault b 2 0
  bad_node : {n i : ℕ} → RollLength b → Lowest (NodeRight b) (NodeFault b) (length (nodes b)) n i → RollFault b n i
