-- What the check of rule entries and their list says, and its parts.
use Rattle.std.specs.Prelude.{ℕ, ◌<◌, ◌≡◌, List, length, get_or}
use Rattle.reply.specs.Reply.{Said}
use Rattle.reply.specs.Bytes.{Bytes}
use Rattle.reply.specs.Outcome.{Lowest, Checked}
use Rattle.query.specs.Table.{Entries, entries}
use Rattle.rules.specs.Table.{expression_at, height}
use Rattle.rules.specs.Rules.{listed, Malformed, EntryFits, RecordFits, Rules, RulesFault}

-- the heights of the first i entries
abbrev pub HeightsKnown : Entries → List ℕ → ℕ → Type 0
HeightsKnown es heights i = (k : ℕ) → k < i → get_or heights k 0 ≡ height (expression_at es k)

-- records that are checked one by one: they all fit, or the lowest that does not is malformed
abbrev pub EachChecked : (ℕ → Type 0) → ℕ → Said → Type 0
EachChecked Fits size said = Checked ((i : ℕ) → i < size → Fits i) (Lowest Fits (Malformed Fits) size) size said

abbrev pub EntriesChecked : Bytes → Said → Type 0
EntriesChecked rules said = EachChecked (EntryFits rules) (length (entries rules)) said

abbrev pub ListChecked : Bytes → Bytes → Said → Type 0
ListChecked rules list said = EachChecked (RecordFits rules list) (length (listed list)) said

abbrev pub RulesChecked : Bytes → Bytes → Said → Type 0
RulesChecked rules list said = Checked (Rules rules list) (RulesFault rules list) (length (listed list)) said
