-- Query tables and filter tables: which bytes are in order, and the fault that any others have.
use Rattle.std.specs.Prelude.{ℕ, ◌-◌, ◌≤◌, ◌<◌, length}
use Rattle.reply.specs.Bytes.{Bytes, Whole}
use Rattle.reply.specs.Outcome.{Lowest}
use Rattle.query.specs.Kind.{path}
use Rattle.query.specs.Table.{entries, HasSort, EntryRight, height_at}

-- The limits of a table: its entries and their height.
pub record Limits : Type 0 where
  pub entries : ℕ
  pub height : ℕ

-- "curator's query": 1 to 256 entries, height 32
abbrev pub curators : Limits
curators = record { entries = 256; height = 32 }

-- "filter table": 0 to 256 entries, height 16
abbrev pub filters : Limits
filters = record { entries = 256; height = 16 }

-- "rewritten query, or query answered on a roll": 1 to 1,024 entries, height 128
abbrev pub answered : Limits
answered = record { entries = 1024; height = 128 }

module _ (limit : Limits) (b : Bytes) where
  pub record EntryFits (i : ℕ) : Type 0 where
    pub right : EntryRight (entries b) i
    pub low : height_at (entries b) i ≤ limit.height

  -- 8, "entry malformed: kind, unused field, operand's number or sort, label"; 9, "entry's height above the limit of its table"
  pub data EntryFault : ℕ → ℕ → Type 0 where
    malformed : {i : ℕ} → ¬ EntryRight (entries b) i → EntryFault 8 i
    too_high : {i : ℕ} → EntryRight (entries b) i → limit.height < height_at (entries b) i → EntryFault 9 i

  pub record QueryLength : Type 0 where
    pub some : 1 ≤ length b
    pub size : Whole 6 limit.entries b

  -- "The last entry of a query table is the query and must be a path."
  unfoldable pub last : ℕ
  last = length (entries b) - 1

  pub record Query : Type 0 where
    pub size : QueryLength
    pub entry : (i : ℕ) → i < length (entries b) → EntryFits i
    pub path : HasSort (entries b) last path

  -- "query (12 for length, lowest entry 8, 9, then 12 for the last entry)"
  pub data QueryFault : ℕ → ℕ → Type 0 where
    bad_length : ¬ QueryLength → QueryFault 12 0
    bad_entry : {n i : ℕ} → QueryLength → Lowest EntryFits EntryFault (length (entries b)) n i → QueryFault n i
    no_path : QueryLength → ((i : ℕ) → i < length (entries b) → EntryFits i) → ¬ HasSort (entries b) last path → QueryFault 12 last

-- Every entry of a filter table is in order; which of them are filters is for the annotation to ask.
pub record FilterTable (b : Bytes) : Type 0 where
  pub size : Whole 6 filters.entries b
  pub entry : (i : ℕ) → i < length (entries b) → EntryFits filters b i

-- "filter table (7, then lowest entry, in it 8, 9)"
pub data FilterFault (b : Bytes) : ℕ → ℕ → Type 0 where
  bad_length : ¬ Whole 6 filters.entries b → FilterFault b 7 0
  bad_entry : {n i : ℕ} → Whole 6 filters.entries b → Lowest (EntryFits filters b) (EntryFault filters b) (length (entries b)) n i → FilterFault b n i
