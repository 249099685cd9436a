-- Where a rewritten table tells who is visible. Only inner contracts cite it.
use Rattle.std.specs.Prelude.{ℕ, ◌+◌, ◌*◌, ◌<◌, ◌↔◌, length}
use Rattle.reply.specs.Bytes.{Bytes}
use Rattle.roll.specs.Roll.{nodes, Roll}
use Rattle.query.specs.Meaning.{holds}
use Rattle.query.specs.Table.{entries, filter_at}
use Rattle.view.specs.Annotation.{records}
use Rattle.view.specs.Promise.{Seen}

-- its number: behind the filter table, the opening and the records' entries
abbrev pub visible_entry : Bytes → Bytes → ℕ
visible_entry annotation filters = length (entries filters) + 9 * length (records annotation) + 13

-- the filter of that entry holds at the visible nodes of every accepted roll
pub record VisibleTold (annotation filters table : Bytes) : Type 0 where
  pub exact : (roll : Bytes) → Roll roll → (k : ℕ) → k < length (nodes roll)
      → Seen roll annotation filters k ↔ holds (nodes roll) (filter_at (entries table) (visible_entry annotation filters)) k
