-- The height that the code finds for an entry is the entry's height. Assumes nothing.
use Prim.Native.Nat.{ℕ, suc, ◌+◌, ◌<◌, max}
use native.Mathlib.Numerals.{add-one}
use mathlib.Core.Path.{◌≡◌, refl, sym, ap₂, ◌∙◌}
use mathlib.Core.List.{List, []}
use mathlib.Core.Option.{Option, none, some}
use lib.ListN.{length, get_or, take}
use lib.Seq.{get_or-take}
use Rattle.query.specs.Kind.{Operand, unused, of, Row, row_of}
use Rattle.query.specs.Table as table
use Rattle.query.specs.Table.{Entries, entry_at, row_at, OperandField, EntryRight, read_on, operand_height, height, height_at}
use Rattle.query.proofs.Tables.{read_at}
use Rattle.tables.specs.declared.entry.Entry.{Entry}
use Rattle.tables.specs.Fields.{Fields}
use Rattle.tables.specs.declared.kinds.Shape.{Shape}
use Rattle.tables.specs.Shape.{operand, left_of, right_of, Shaped}
use Rattle.tables.proofs.Entries.{shape_read}

module _ (heights : List ℕ) where
  -- the height of an entry whose kind is listed
  listed_height : (e : table.Entry) (row : Row) → row_of e.kind ≡ some row
      → suc (max (operand_height heights row.left e.left) (operand_height heights row.right e.right)) ≡ height heights e
  unfolding height
  listed_height e row same = rw (same, height) refl

  -- the height of any entry, listed or not
  by_row : (e : table.Entry) (row : Option Row) → row_of e.kind ≡ row
      → suc (max (operand_height heights (left_of row) e.left) (operand_height heights (right_of row) e.right)) ≡ height heights e
  unfolding height operand_height
  by_row e none same = rw (same, height) refl
  by_row e (some row) same = listed_height e row same

  -- an entry is one higher than the higher of its operands
  pub height_read : {l r : ℕ} {e : table.Entry} (read : Entry) (shape : Shape) → Fields e read → Shaped (row_of read.kind) shape
      → l ≡ operand_height heights (operand shape.left) read.left → r ≡ operand_height heights (operand shape.right) read.right
      → max l r + 1 ≡ height heights e
  height_read {l} {r} {e} read shape fields shaped left right =
      let here : Shaped (row_of e.kind) shape = shape_read fields shaped in
      let low : l ≡ operand_height heights (left_of (row_of e.kind)) e.left = rw (← here.left, ← fields.left) left in
      let high : r ≡ operand_height heights (right_of (row_of e.kind)) e.right = rw (← here.right, ← fields.right) right in
      add-one (max l r) ∙ rw (low, high) (by_row e (row_of e.kind) refl)

module _ (es : Entries) (i : ℕ) (heights : List ℕ) (known : (k : ℕ) → k < i → get_or heights k 0 ≡ height_at es k) where
  -- an operand in order is as high among the first i heights as among those known
  operand_known : (o : Operand) (x : ℕ) → OperandField es i o x
      → operand_height (take i (read_on height [] es)) o x ≡ operand_height heights o x
  unfolding OperandField operand_height height_at
  operand_known unused x right = refl
  operand_known (of s) x right = get_or-take i (read_on height [] es) x 0 right.0 ∙ sym (known x right.0)

  -- the height of an entry in order, from the heights of the entries before it
  pub height_known : i < length es → EntryRight es i → height_at es i ≡ height heights (entry_at es i)
  unfolding height_at entry_at row_at
  height_known l right =
      let e : table.Entry = entry_at es i in
      let front : List ℕ = take i (read_on height [] es) in
      read_at height es i 0 (record { kind = 0; label = 0; left = 0; right = 0 }) l
      ∙ sym (listed_height front e right.row right.listed)
      ∙ ap₂ (λ (m n : ℕ). suc (max m n)) (operand_known right.row.left e.left right.left)
      (operand_known right.row.right e.right right.right)
      ∙ listed_height heights e right.row right.listed
