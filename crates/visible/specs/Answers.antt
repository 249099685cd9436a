-- The answers of the records' filters on the whole roll, a set of nodes for each record.
use Rattle.std.specs.Prelude.{ℕ, ◌<◌, List, [], length, slice_index_or}
use Rattle.reply.specs.Bytes.{Bytes}
use Rattle.roll.specs.Roll.{nodes}
use Rattle.query.specs.Meaning.{holds}
use Rattle.query.specs.Table.{entries, filter_at}
use Rattle.view.specs.Annotation.{records, record_at}
use Rattle.sets.specs.Sets.{Holds}
use Rattle.visible.specs.Index.{FirstNamed}

-- the filter of record r holds at node i
pub record HoldsAt (roll annotation filters : Bytes) (r i : ℕ) : Type 0 where
  pub node : i < length (nodes roll)
  pub filter : holds (nodes roll) (filter_at (entries filters) (record_at (records annotation) r).filter) i

-- the answers of those of the first n records that are the first to name their filter
pub record AnswersTo (roll annotation filters : Bytes) (n : ℕ) (answers : List (List ℕ)) : Type 0 where
  pub answer : (r : ℕ) → r < n → FirstNamed annotation r r → Holds (HoldsAt roll annotation filters r) (slice_index_or answers r [])

-- the answers of all
abbrev pub AllAnswered : Bytes → Bytes → Bytes → List (List ℕ) → Type 0
AllAnswered roll annotation filters answers = AnswersTo roll annotation filters (length (records annotation)) answers
