-- The code's struct of an entry.
use Rattle.std.specs.Prelude.{◌≡◌}
use Rattle.query.specs.Table as table
use Rattle.tables.specs.declared.entry.Entry.{Entry}

-- the struct has the fields of the entry
pub record Fields (entry : table.Entry) (read : Entry) : Type 0 where
  pub kind : read.kind ≡ entry.kind
  pub label : read.label ≡ entry.label
  pub left : read.left ≡ entry.left
  pub right : read.right ≡ entry.right
