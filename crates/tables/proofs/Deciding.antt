-- The tests of an entry's fields decide whether the entry is in order. Assumes nothing.
use Prim.Native.Nat.{ℕ, ◌*◌, ◌%◌, ◌≤◌}
use native.Mathlib.Omega.{arith}
use mathlib.Core.Path.{◌≡◌, refl, sym, ◌∙◌, subst}
use mathlib.Core.Logic.{◌↔◌}
use mathlib.Core.Bool.{Bool, ◌&&◌}
use mathlib.Core.Option.{Option, none, some}
use lib.Dec.{T, leb, ltb, eqb, leb→le, le→leb}
use lib.ListN.{length}
use Rattle.reply.specs.Bytes.{Bytes, Whole}
use Rattle.tree.proofs.Tests.{Decides, less_test, equal_test, and_test, same_test}
use Rattle.std.specs.Prelude.{Option as Maybe, Some, None}
use Rattle.std.specs.Option.{is_some}
use Rattle.query.specs.Kind.{Row, row_of}
use Rattle.query.specs.Table.{Entries, entry_at, row_at, LabelField, OperandField, EntryRight}
use Rattle.query.specs.Fault.{Limits, QueryLength}
use Rattle.tables.specs.declared.entry.Entry.{Entry}
use Rattle.tables.specs.Fields.{Fields}
use Rattle.tables.specs.declared.kinds.Shape.{Shape}
use Rattle.tables.specs.declared.kinds.Sort.{Sort as CodeSort}
use Rattle.tables.specs.Shape.{operand, sort_of, left_of, right_of, label_of, Shaped}
use Rattle.tables.proofs.Entries.{shape_read}

-- a test of an order
at_most_test : (m n : ℕ) → Decides (leb m n) (m ≤ n)
at_most_test m n = record { exact = (leb→le m n, le→leb m n) }

-- whole records within a limit, by the length
pub whole_test : (size limit : ℕ) (b : Bytes) → Decides (eqb (length b % size) 0 && leb (length b) (size * limit)) (Whole size limit b)
whole_test size limit b =
    same_test (and_test (equal_test (length b % size) 0) (at_most_test (length b) (size * limit)))
    (λ p. record { multiple = p.0; most = p.1 }, λ (h : Whole size limit b). (h.multiple, h.most))

-- the length of a query table: some entries, whole, within the limit
pub length_test : {w : Bool} (limit : Limits) (b : Bytes) → Decides w (Whole 6 limit.entries b)
    → Decides (ltb 0 (length b) && w) (QueryLength limit b)
length_test limit b test =
    same_test (and_test (less_test 0 (length b)) test)
    (λ p. record { some = p.0; size = p.1 }, λ (h : QueryLength limit b). (h.some, h.size))

-- a number is a kind's where it has a sort
listed_test : (row : Option Row) (sort : Maybe CodeSort) → operand sort ≡ sort_of row → Decides (is_some sort) (¬ (row ≡ none))
listed_test none None e = record { exact = (absurd, λ z. z refl) }
listed_test none (Some s) e = absurd (grind arith)
listed_test (some row) None e = absurd (grind arith)
listed_test (some row) (Some s) e = record { exact = (λ t z. grind arith, λ z. tt) }

module _ (es : Entries) (i : ℕ) where
  -- an entry whose kind is listed is in order where its fields are right
  by_row : (row : Option Row) → row_at es i ≡ row
      → ((((¬ (row ≡ none)) × LabelField (label_of row) (entry_at es i).label) × OperandField es i (left_of row) (entry_at es i).left)
      × OperandField es i (right_of row) (entry_at es i).right) ↔ EntryRight es i
  by_row none e = (λ p. absurd (p.0.0.0 refl), λ h. absurd (unlisted h))
    where
      unlisted : EntryRight es i → ⊥
      unlisted h = let z : none ≡ some h.row = sym e ∙ h.listed in grind arith
  by_row (some row) e = (
    λ p. record { row = row; listed = e; label = p.0.0.1; left = p.0.1; right = p.1 },
    λ (h : EntryRight es i).
        let same : h.row ≡ row = cc (e, h.listed) in (
          (
            (λ z. grind arith, subst (λ (r : Row). LabelField r.label (entry_at es i).label) same h.label),
            subst (λ (r : Row). OperandField es i r.left (entry_at es i).left) same h.left,
          ),
          subst (λ (r : Row). OperandField es i r.right (entry_at es i).right) same h.right,
        ),
  )

  -- the tests of what was read of an entry: of its kind and label, and of its operands
  module _ (read : Entry) (shape : Shape) (fields : Fields (entry_at es i) read) (shaped : Shaped (row_of read.kind) shape) where
    here : Shaped (row_at es i) shape
    unfolding row_at
    here = shape_read fields shaped

    pub kind_test : {a : Bool} (b : Bool) → a ≡ is_some shape.sort → T b ↔ LabelField shape.label read.label
        → T (a && b) ↔ ((¬ (row_at es i ≡ none)) × LabelField shape.label read.label)
    kind_test b same label = rw same (and_test (listed_test (row_at es i) shape.sort here.sort) (record { exact = label })).exact

    pub order_parts : ((((¬ (row_at es i ≡ none)) × LabelField shape.label read.label) × OperandField es i (operand shape.left) read.left)
        × OperandField es i (operand shape.right) read.right) ↔ EntryRight es i
    order_parts = rw (here.label, here.left, here.right, fields.label, fields.left, fields.right) (by_row (row_at es i) refl)
