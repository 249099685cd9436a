-- What the constant table over kind numbers says of the list of kinds.
use Rattle.std.specs.Prelude.{◌≡◌, Bool, false, Option as Maybe, Some, None}
use Rattle.std.proofs.Math.Option.{Option, none, some}
use Rattle.query.specs.Kind as kind
use Rattle.query.specs.Kind.{path, filter, Operand, unused, of, Row}
use Rattle.tables.specs.declared.kinds.Row.{Row as Written}
use Rattle.tables.specs.declared.kinds.Shape.{Shape}
use Rattle.tables.specs.declared.kinds.Sort.{Sort}
use Rattle.tables.specs.declared.kinds.Sort.TheVariants.{Path, Filter}

-- the code's sorts are those of the list
abbrev pub the_sort : Sort → kind.Sort
the_sort Path = path
the_sort Filter = filter

-- and a sort that may be missing is an operand's
abbrev pub operand : Maybe Sort → Operand
operand None = unused
operand (Some s) = of (the_sort s)

-- Of the row of a kind, if there is one: its sort, its left and right operand, and whether it uses its label.
abbrev pub sort_of : Option Row → Operand
sort_of none = unused
sort_of (some row) = of row.sort

abbrev pub left_of : Option Row → Operand
left_of none = unused
left_of (some row) = row.left

abbrev pub right_of : Option Row → Operand
right_of none = unused
right_of (some row) = row.right

abbrev pub label_of : Option Row → Bool
label_of none = false
label_of (some row) = row.label

-- the shape says of the row what the list says
pub record Shaped (row : Option Row) (shape : Shape) : Type 0 where
  pub sort : operand shape.sort ≡ sort_of row
  pub left : operand shape.left ≡ left_of row
  pub right : operand shape.right ≡ right_of row
  pub label : shape.label ≡ label_of row

-- and so does the row of the table
abbrev pub Listed : Option Row → Written → Type 0
Listed row written = Shaped row (record { sort = written.0; left = written.1; right = written.2; label = written.3 })
