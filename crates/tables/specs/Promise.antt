-- What the check of a query table and of a filter table promises.
use Rattle.std.specs.Prelude.{ℕ, ◌<◌, length}
use Rattle.reply.specs.Reply.{Said}
use Rattle.reply.specs.Bytes.{Bytes}
use Rattle.reply.specs.Outcome.{Lowest, Checked}
use Rattle.query.specs.Table.{entries, EntryRight}
use Rattle.query.specs.Fault.{Limits, EntryFits, EntryFault, Query, QueryFault, FilterTable, FilterFault}

-- every entry of a table is in order
abbrev pub EntriesRight : Bytes → Type 0
EntriesRight b = (i : ℕ) → i < length (entries b) → EntryRight (entries b) i

-- the entries alone: "lowest entry, in it 8, 9"
abbrev pub EntriesChecked : Limits → Bytes → Said → Type 0
EntriesChecked limit b said =
    Checked ((i : ℕ) → i < length (entries b) → EntryFits limit b i)
    (Lowest (EntryFits limit b) (EntryFault limit b) (length (entries b))) (length (entries b)) said

-- a query, of which the limits of its table are given
abbrev pub QueryChecked : Limits → Bytes → Said → Type 0
QueryChecked limit b said = Checked (Query limit b) (QueryFault limit b) (length (entries b)) said

abbrev pub FilterChecked : Bytes → Said → Type 0
FilterChecked b said = Checked (FilterTable b) (FilterFault b) (length (entries b)) said
