-- What the parts of the check of a roll's content come to. Nothing here has to be believed: its promise is the crate rules's.
use Rattle.std.specs.Prelude.{ℕ, ◌≤◌, ◌<◌, ◌≡◌, List, length, get_or, Option, Some, None, IfSome}
use Rattle.reply.specs.Reply.{Said}
use Rattle.reply.specs.Bytes.{Bytes}
use Rattle.reply.specs.Outcome.{Checked}
use Rattle.tree.specs.Tree.{Tree, label_at}
use Rattle.roll.specs.Roll.{nodes}
use Rattle.query.specs.Table.{Entries}
use Rattle.rules.specs.Language.{Word, InLanguage}
use Rattle.rules.specs.Table.{expression_at}
use Rattle.rules.specs.Rules.{listed, entry_named}
use Rattle.rules.specs.Promise.{Follows, ContentFault}

-- the number of the entry that the first n list records name for a label, if they name one
pub data NamedBelow (rs : Tree) (n l : ℕ) : Option ℕ → Type 0 where
  named : {k : ℕ} → k < n → label_at rs k ≡ l → NamedBelow rs n l (Some (entry_named rs k))
  unnamed : ((k : ℕ) → k < n → ¬ (label_at rs k ≡ l)) → NamedBelow rs n l None

-- what a table by labels has for a label
abbrev pub rule_of : List (Option ℕ) → ℕ → Option ℕ
rule_of table l = get_or table l None

-- a table that has it for every label
pub record ByLabel (list : Bytes) (table : List (Option ℕ)) : Type 0 where
  pub each : (l : ℕ) → l ≤ 64 → NamedBelow (listed list) (length (listed list)) l (rule_of table l)

-- the numbers in it are numbers of entries
abbrev pub NamesEntries : Entries → List (Option ℕ) → Type 0
NamesEntries es table = (l : ℕ) → l ≤ 64 → IfSome (rule_of table l) (λ e. e < length es)

-- the word is one of the entry, if there is one
abbrev pub Obeys : Entries → Option ℕ → Word → Type 0
Obeys es (Some e) w = InLanguage (expression_at es e) w
Obeys es None w = Unit {0}

-- what the check of the nodes says, where roll and rules are in order
abbrev pub NodesChecked : Bytes → Bytes → Bytes → Said → Type 0
NodesChecked roll rules list said = Checked (Follows roll rules list) (ContentFault roll rules list) (length (nodes roll)) said
