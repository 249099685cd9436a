-- What the writer must be given, and what an entry that it writes is. Nothing here has to be believed: call 5's promise is stated without it.
use Rattle.std.specs.Prelude.{ℕ, ◌+◌, ◌*◌, ◌≤◌, ◌<◌, ◌≡◌, length}
use Rattle.reply.specs.Bytes.{Bytes}
use Rattle.query.specs.Table.{Entry, Entries}
use Rattle.view.specs.Annotation.{records, record_at}
use Rattle.tables.specs.Laid.{laid, fields}
use Rattle.tables.specs.Kind.{number}
use Rattle.writer.specs.declared.entry.Entry as writer
use Rattle.writer.specs.declared.part.Part.{Part}

-- There is room for so many entries behind n others.
pub record Room (out : Bytes) (n many : ℕ) : Type 0 where
  pub fits : 6 * (n + many) ≤ length out

-- Kind and label are bytes.
pub record ByteFields (k l : ℕ) : Type 0 where
  pub kind : k < 256
  pub label : l < 256

-- A number of two bytes.
abbrev pub Short : ℕ → Type 0
Short n = n < 65536

-- the numbers of so many entries behind `first` others have two bytes
pub record Numbers (first many : ℕ) : Type 0 where
  pub short : first + many < 65536

-- the labels of every record are bytes
abbrev pub LabelBytes : Bytes → Type 0
LabelBytes annotation =
    (i : ℕ) → i < length (records annotation)
    → ByteFields (record_at (records annotation) i).parent (record_at (records annotation) i).child

-- the entry that is to be written
abbrev pub as_entry : writer.Entry → Entry
as_entry own = fields (number own.kind) own.label own.left own.right

-- its operands are numbers of two bytes
abbrev pub SmallOperands : writer.Entry → Type 0
SmallOperands own = Short own.left × Short own.right

-- In the same lent bytes entries are written behind those that the part had.
pub record Lays (before : Part) (es : Entries) (after : Part) : Type 0 where
  pub same : after.out.ghost_name ≡ before.out.ghost_name
  pub long : length after.out.now ≡ length before.out.now
  pub end : after.at ≡ before.at + length es
  pub bytes : after.out.now ≡ laid before.out.now before.at es
