-- Rules: which bytes are rule entries and their list, the fault that any others have, and which rolls follow them.
use Rattle.std.specs.Prelude.{ℕ, zero, suc, ◌≤◌, ◌<◌, ◌≡◌, true, false, [], ◌∷◌, eqb, length}
use Rattle.reply.specs.Bytes.{Bytes, Whole}
use Rattle.reply.specs.Outcome.{Lowest}
use Rattle.tree.specs.Tree.{Label, Tree, label_at, parent_at}
use Rattle.roll.specs.Roll.{nodes, second_byte}
use Rattle.query.specs.Table.{entries}
use Rattle.rules.specs.Language.{Word, InLanguage}
use Rattle.rules.specs.Table.{EntryRight, expression_at, height}

-- "four-byte list records (label, zero, entry number)": they lie as the records of nodes do, with the entry's number for the parent's
abbrev pub listed : Bytes → Tree
listed list = nodes list

abbrev pub entry_named : Tree → ℕ → ℕ
entry_named = parent_at

-- "labels strictly ascending"
unfoldable pub AboveLast : Tree → ℕ → Type 0
AboveLast rs zero = Unit {0}
AboveLast rs (suc k) = label_at rs k < label_at rs (suc k)

-- 20, "rule entries or their list malformed"
pub data Malformed (Right : ℕ → Type 0) : ℕ → ℕ → Type 0 where
  malformed : {i : ℕ} → ¬ Right i → Malformed Right 20 i

-- an entry is in order: kind, fields and operands; "height at most 32"
pub record EntryFits (rules : Bytes) (i : ℕ) : Type 0 where
  pub right : EntryRight (entries rules) i
  pub low : height (expression_at (entries rules) i) ≤ 32

module _ (rules list : Bytes) where
  -- "at most 256" entries, "at most 64" list records
  pub record RulesLength : Type 0 where
    pub of_entries : Whole 6 256 rules
    pub of_list : Whole 4 64 list

  -- a list record is in order: it has a label, above the one before, and a zero, and names an entry
  pub record RecordFits (k : ℕ) : Type 0 where
    pub label : Label (label_at (listed list) k)
    pub second : second_byte list k ≡ 0
    pub named : entry_named (listed list) k < length (entries rules)
    pub ascends : AboveLast (listed list) k

  pub record Rules : Type 0 where
    pub size : RulesLength
    pub entry : (i : ℕ) → i < length (entries rules) → EntryFits rules i
    pub each : (k : ℕ) → k < length (listed list) → RecordFits k

  -- "place 0 for a bad length of either, then the lowest bad entry, then the lowest bad list record"
  pub data RulesFault : ℕ → ℕ → Type 0 where
    bad_length : ¬ RulesLength → RulesFault 20 0
    bad_entry : {n i : ℕ} → RulesLength → Lowest (EntryFits rules) (Malformed (EntryFits rules)) (length (entries rules)) n i → RulesFault n i
    bad_record : {n k : ℕ} → RulesLength → ((i : ℕ) → i < length (entries rules) → EntryFits rules i)
        → Lowest RecordFits (Malformed RecordFits) (length (listed list)) n k → RulesFault n k

-- the labels of those records whose parent is i, in order
unfoldable pub labels_under : ℕ → Tree → Word
labels_under i [] = []
labels_under i (n ∷ more) = elim (eqb n.parent i) [ true ↦ n.label ∷ labels_under i more | false ↦ labels_under i more ]

-- "child labels, in order", of node i: record 0 is nobody's child
unfoldable pub word : Tree → ℕ → Word
word [] i = []
word (root ∷ more) i = labels_under i more

module _ (rules list : Bytes) (t : Tree) where
  -- "every node's child labels, in order, are in its rule's language"; "an unlisted label takes any children"
  pub record Allowed (i : ℕ) : Type 0 where
    pub ruled : (k : ℕ) → k < length (listed list) → label_at (listed list) k ≡ label_at t i
        → InLanguage (expression_at (entries rules) (entry_named (listed list) k)) (word t i)

  -- 21, "children not allowed"
  pub data Forbidden : ℕ → ℕ → Type 0 where
    forbidden : {i : ℕ} → ¬ Allowed i → Forbidden 21 i
