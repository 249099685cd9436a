-- What an entry that is read stands for: the expression of its kind, over what its operands stand for. So nobody who goes through a table
-- unfolds how it is read. Assumes nothing.
use Prim.Native.Nat.{ℕ, ◌<◌}
use mathlib.Core.Path.{◌≡◌, ap, ap₂, ◌∙◌}
use mathlib.Core.List.{List, []}
use lib.ListN.{length, get_or, take}
use lib.Seq.{get_or-take}
use Rattle.query.specs.Table.{Entry, Entries, entry_at, read_on}
use Rattle.query.proofs.Tables.{read_at}
use Rattle.rules.specs.declared.Rule.{Rule}
use Rattle.rules.specs.declared.Rule.TheVariants.{Empty, One, Then, Either, Star}
use Rattle.rules.specs.Language.{Expression, empty, one, then, either, star}
use Rattle.rules.specs.Table as table
use Rattle.rules.specs.Table.{fields, EntryRight, mean, expression_at}
use Rattle.rules.specs.Read.{Is, meaning}

-- Entry i of a table and what it stands for, by its kind.
pub data Stands (es : Entries) (i : ℕ) : Type 0 where
  nothing : entry_at es i ≡ fields 32 0 0 0 → expression_at es i ≡ empty → Stands es i
  one_label : {l : ℕ} → entry_at es i ≡ fields 33 l 0 0 → expression_at es i ≡ one l → Stands es i
  in_turn : {a b : ℕ} → a < i → b < i → entry_at es i ≡ fields 34 0 a b → expression_at es i ≡ then (expression_at es a) (expression_at es b) → Stands es i
  one_of_two : {a b : ℕ} → a < i → b < i → entry_at es i ≡ fields 35 0 a b → expression_at es i ≡ either (expression_at es a) (expression_at es b)
      → Stands es i
  any_times : {a : ℕ} → a < i → entry_at es i ≡ fields 36 0 a 0 → expression_at es i ≡ star (expression_at es a) → Stands es i

module _ (es : Entries) (i : ℕ) (within : i < length es) where
  -- what was read before the entry
  abbrev before : List Expression
  before = take i (read_on mean [] es)

  -- an entry stands for what it means there
  meant : {x : Entry} → entry_at es i ≡ x → expression_at es i ≡ mean before x
  unfolding expression_at entry_at
  meant at = read_at mean es i empty _ within ∙ ap (mean before) at

  -- an operand is looked up among what was read before
  operand_before : {a : ℕ} → a < i → get_or before a empty ≡ expression_at es a
  unfolding expression_at
  operand_before {a} l = get_or-take i (read_on mean [] es) a empty l

  pub is_meant : {rule : Rule} → Is es i rule → expression_at es i ≡ meaning es rule
  unfolding mean
  is_meant {rule = Empty} is = meant is.read
  is_meant {rule = One l} is = meant is.read
  is_meant {rule = Then a b} is = meant is.read ∙ ap₂ then (operand_before is.right.0) (operand_before is.right.1)
  is_meant {rule = Either a b} is = meant is.read ∙ ap₂ either (operand_before is.right.0) (operand_before is.right.1)
  is_meant {rule = Star a} is = meant is.read ∙ ap star (operand_before is.right)

  -- an entry in order is one of the five, and stands for what it means
  pub stands : EntryRight es i → Stands es i
  stands (table.nothing at) = nothing at (is_meant {rule = Empty} (record { read = at; right = tt }))
  stands (table.one_label l at) = one_label at (is_meant {rule = One _} (record { read = at; right = l }))
  stands (table.in_turn l r at) = in_turn l r at (is_meant {rule = Then _ _} (record { read = at; right = (l, r) }))
  stands (table.one_of_two l r at) = one_of_two l r at (is_meant {rule = Either _ _} (record { read = at; right = (l, r) }))
  stands (table.any_times l at) = any_times l at (is_meant {rule = Star _} (record { read = at; right = l }))

-- and what is read is in order
pub in_order : {es : Entries} {i : ℕ} {rule : Rule} → Is es i rule → EntryRight es i
in_order {rule = Empty} is = table.nothing is.read
in_order {rule = One l} is = table.one_label is.right is.read
in_order {rule = Then a b} is = table.in_turn is.right.0 is.right.1 is.read
in_order {rule = Either a b} is = table.one_of_two is.right.0 is.right.1 is.read
in_order {rule = Star a} is = table.any_times is.right is.read
