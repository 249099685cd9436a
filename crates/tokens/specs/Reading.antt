-- What the readers of the parts of a text come to, in terms of the rules of reading: what is read, up to where, and what is written for it.
-- Nothing here has to be believed: call 2's promise is stated without it, and proved from it.
use Rattle.std.specs.Prelude as std
use Rattle.std.specs.Prelude.{ℕ, ◌+◌, ◌-◌, ◌*◌, ◌≤◌, ◌<◌, ◌≡◌, length, get_or, take, drop, Option, Some, None, Ok, Err}
use mathlib.Core.List.{[], ◌∷◌, ◌++◌, Memᴰ}
use Rattle.reply.specs.Bytes.{Bytes}
use Rattle.query.specs.Table.{Entries, entry_bytes}
use Rattle.tables.specs.Laid.{fields}
use Rattle.tables.specs.declared.kinds.Kind.{Kind}
use Rattle.tables.specs.declared.kinds.Kind.TheVariants as kind
use Rattle.text.specs.Written.{path_entries, filter_entries}
use Rattle.derivation.specs.declared.Chain.{Chain}
use Rattle.derivation.specs.declared.Chain.TheVariants as chain
use Rattle.derivation.specs.declared.Bracket.{Bracket}
use Rattle.derivation.specs.Parts.{Joined, inside}
use Rattle.derivation.proofs.Rules.{Stop, broken, deep, Result, got, stopped, LabelReads, ChainReads, LinkReads, AtomReads, BracketReads}
use Rattle.tokens.specs.declared.answer.Read.{Read}
use Rattle.tokens.specs.declared.answer.Stopped.{Stopped}
use Rattle.tokens.specs.declared.answer.Stopped.TheVariants.{Broken, Deep}
use Rattle.tables.specs.declared.kinds.Sort.{Sort}
use Rattle.tables.specs.declared.kinds.Sort.TheVariants as sort

-- A kind of thing that is read: the rules that read it, what is written for it behind n entries, and how far that stays below two entries
-- for each byte.
pub record Line : Type 1 where
  pub Thing : Type 0
  pub reads : ℕ → Bytes → Result Thing → Type 0
  pub written : ℕ → Thing → Entries
  pub spare : ℕ

-- the same, by its parts
abbrev pub as_line : {A : Type 0} → (ℕ → Bytes → Result A → Type 0) → (ℕ → A → Entries) → ℕ → Line
as_line {A} reads written spare = record { Thing = A; reads = reads; written = written; spare = spare }

-- an entry alone
abbrev pub one : ℕ → ℕ → ℕ → ℕ → Entries
one kind label left right = fields kind label left right ∷ []

-- Behind the n entries of the table stand these.
pub record Added (before : Bytes) (n : ℕ) (es : Entries) (after : Bytes) : Type 0 where
  pub front : take (6 * (n + length es)) after ≡ take (6 * n) before ++ entry_bytes es

-- x is read from `at` up to `to`, and its entries stand behind the n entries of the table, which now has m.
pub record Entered {A : Type 0} (written : ℕ → A → Entries) (spare : ℕ) (text : Bytes) (at : ℕ) (before : Bytes) (n : ℕ) (x : A)
    (to m : ℕ) (after : Bytes) : Type 0 where
  pub further : at < to
  pub some : n < m
  pub within : to ≤ length text
  pub count : m ≡ n + length (written n x)
  pub few : m + spare ≤ n + 2 * (to - at)
  pub table : Added before n (written n x) after

-- What a reader answers: what was read, or a stop.
abbrev pub Answer : Type 0
Answer = std.Result Read Stopped

-- why reading stops
abbrev pub why : Stopped → Stop
why (Broken i) = broken
why (Deep i) = deep

-- and where
abbrev pub stop_place : Stopped → ℕ
stop_place (Broken i) = i
stop_place (Deep i) = i

-- What reading from `at` with k brackets open comes to, where the table has n entries.
pub data Follows (line : Line) (k : ℕ) (text : Bytes) (at : ℕ) (before : Bytes) (n : ℕ) : Answer → Bytes → Type 0 where
  follows : {x : line.Thing} {r : Read} {after : Bytes} → line.reads k (drop at text) (got x (drop r.at text))
      → Entered line.written line.spare text at before n x r.at r.count after → Follows line k text at before n (Ok r) after
  stops : {z : Stopped} {after : Bytes} → line.reads k (drop at text) (stopped (why z) (drop (stop_place z) text))
      → stop_place z ≤ length text → Follows line k text at before n (Err z) after

-- The place is in the text, and the table has room for what can follow: two entries for each byte.
pub record RoomAhead (text : Bytes) (at : ℕ) (table : Bytes) (n : ℕ) : Type 0 where
  pub within : at ≤ length text
  pub room : 6 * (n + 2 * (length text - at)) ≤ length table

-- 15, "a bracket is opened while 32 are open"
abbrev pub most_open : ℕ
most_open = 32

-- what is written for a chain
abbrev pub joined_entries : (c : Chain) → ℕ → Joined c → Entries
joined_entries chain.Path = path_entries
joined_entries chain.Sequence = path_entries
joined_entries chain.Filter = filter_entries
joined_entries chain.Conjunction = filter_entries

-- and spared: a path is used as a filter by one more entry
abbrev pub joined_spare : Chain → ℕ
joined_spare chain.Path = 1
joined_spare chain.Sequence = 1
joined_spare chain.Filter = 0
joined_spare chain.Conjunction = 0

-- The lines of the grammar: the chains, their links, and atoms.
abbrev pub chains : Chain → Line
chains c = as_line (ChainReads most_open c) (joined_entries c) (joined_spare c)

abbrev pub links : Chain → Line
links c = as_line (LinkReads most_open c) (joined_entries c) (joined_spare c)

abbrev pub paths : Line
paths = chains chain.Path

abbrev pub filters : Line
filters = chains chain.Filter

abbrev pub items : Line
items = links chain.Sequence

abbrev pub terms : Line
terms = links chain.Conjunction

abbrev pub atoms : Line
atoms = as_line (AtomReads most_open) path_entries 1

-- the kind of two links that are joined
abbrev pub joined_kind : Chain → ℕ
joined_kind chain.Path = 8
joined_kind chain.Sequence = 7
joined_kind chain.Filter = 22
joined_kind chain.Conjunction = 21

-- A path is a chain of sequences, and a filter one of conjunctions.
abbrev pub outer_chain : Sort → Chain
outer_chain sort.Path = chain.Path
outer_chain sort.Filter = chain.Filter

-- These are chains themselves: of items, and of terms.
abbrev pub inner_chain : Sort → Chain
inner_chain sort.Path = chain.Sequence
inner_chain sort.Filter = chain.Conjunction

-- What the entries from `left` up to `right` say is joined to what those from `from` up to `left` say, where there are any.
pub data Joins (c : Chain) (before : Bytes) (from left right : ℕ) : ℕ → Bytes → Type 0 where
  alone : left ≤ from → Joins c before from left right right before
  both : {after : Bytes} → from < left → Added before right (one (joined_kind c) 0 (left - 1) (right - 1)) after
      → Joins c before from left right (right + 1) after

-- A label, as a filter of it is written.
abbrev pub labels : Line
labels = as_line (λ k. LabelReads) (λ n l. one 16 l 0 0) 1

-- From a place up to another there stands nothing but !, and there none.
pub record Nots (text : Bytes) (at next : ℕ) : Type 0 where
  pub on : at ≤ next
  pub within : next ≤ length text
  pub each : (k : ℕ) → k < next → at ≤ k → get_or text k 0 ≡ 33
  pub other : get_or text next 0 ≡ 33 → ⊥

-- A bracket with what stands in it: its two bytes write nothing.
abbrev pub brackets : Bracket → Line
brackets k = as_line (BracketReads most_open k) (joined_entries (inside k)) (joined_spare (inside k) + 4)

-- The next place, or the place of the stop.
abbrev pub place_of : Answer → ℕ
place_of (Ok r) = r.at
place_of (Err z) = stop_place z

-- What was read ends with the closing byte; a stop is passed up.
pub data Closed (text : Bytes) (close : ℕ) : Answer → Answer → Type 0 where
  closed_by : {r : Read} → get_or text r.at 0 ≡ close → Closed text close (Ok r) (Ok (record { at = r.at + 1; count = r.count }))
  open_at : {r : Read} → (get_or text r.at 0 ≡ close → ⊥) → Closed text close (Ok r) (Err (Broken r.at))
  passed_by : {z : Stopped} → Closed text close (Err z) (Err z)

-- The kind of an atom that is one byte, . v ^ > <, and none of any other byte.
pub data AxisOf (byte : ℕ) : Option Kind → Type 0 where
  dot : byte ≡ 46 → AxisOf byte (Some kind.Itself)
  letter_v : byte ≡ 118 → AxisOf byte (Some kind.Child)
  caret : byte ≡ 94 → AxisOf byte (Some kind.Parent)
  greater : byte ≡ 62 → AxisOf byte (Some kind.Next)
  less : byte ≡ 60 → AxisOf byte (Some kind.Previous)
  no_axis : ¬ Memᴰ byte (46 ∷ 118 ∷ 94 ∷ 62 ∷ 60 ∷ []) → AxisOf byte None

-- The table has room for one more entry behind those of an operand that was read.
abbrev pub RoomBehind : Answer → Bytes → Type 0
RoomBehind (Ok r) table = (1 ≤ r.count) × (6 * (r.count + 1) ≤ length table)
RoomBehind (Err z) table = Unit {0}

-- An entry of a kind stands behind its operand, where that was read; a stop is passed up.
pub data Behind (kind : ℕ) (before : Bytes) : Answer → Answer → Bytes → Type 0 where
  behind : {r : Read} {after : Bytes} → Added before r.count (one kind 0 (r.count - 1) 0) after
      → Behind kind before (Ok r) (Ok (record { at = r.at; count = r.count + 1 })) after
  passed_on : {z : Stopped} {after : Bytes} → Behind kind before (Err z) (Err z) after
