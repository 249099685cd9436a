-- What a rule entry is read as. Nothing here has to be believed: it is said by the definitions of Table.
use Rattle.std.specs.Prelude.{ℕ, ◌<◌, ◌≡◌}
use Rattle.tree.specs.Tree.{Label}
use Rattle.query.specs.Table.{Entry, Entries, entry_at}
use Rattle.rules.specs.declared.Rule.{Rule}
use Rattle.rules.specs.declared.Rule.TheVariants.{Empty, One, Then, Either, Star}
use Rattle.rules.specs.Language.{Expression, empty, one, then, either, star}
use Rattle.rules.specs.Table.{fields, expression_at}

-- the fields of the entry: each case has the number of its kind
abbrev pub fields_of : Rule → Entry
fields_of Empty = fields 32 0 0 0
fields_of (One l) = fields 33 l 0 0
fields_of (Then a b) = fields 34 0 a b
fields_of (Either a b) = fields 35 0 a b
fields_of (Star a) = fields 36 0 a 0

-- the label is one, and operands are numbers of entries before entry i
abbrev pub FieldsRight : ℕ → Rule → Type 0
FieldsRight i Empty = Unit {0}
FieldsRight i (One l) = Label l
FieldsRight i (Then a b) = (a < i) × (b < i)
FieldsRight i (Either a b) = (a < i) × (b < i)
FieldsRight i (Star a) = a < i

-- entry i is in order, and is this
pub record Is (es : Entries) (i : ℕ) (rule : Rule) : Type 0 where
  pub read : entry_at es i ≡ fields_of rule
  pub right : FieldsRight i rule

-- what it stands for, over what its operands stand for
abbrev pub meaning : Entries → Rule → Expression
meaning es Empty = empty
meaning es (One l) = one l
meaning es (Then a b) = then (expression_at es a) (expression_at es b)
meaning es (Either a b) = either (expression_at es a) (expression_at es b)
meaning es (Star a) = star (expression_at es a)
