-- Tests that compute whether an annotation and its filter table are accepted. Assumes nothing.
use Prim.Native.Nat.{ℕ, zero, suc, ◌*◌, ◌%◌}
use mathlib.Core.Path.{◌≡◌, refl}
use mathlib.Core.Bool.{Bool, true, false, ◌&&◌, ◌||◌}
use mathlib.Core.List.{List, [], ◌∷◌}
use mathlib.Core.Option.{Option, none, some}
use lib.Dec.{T, eqb, leb, ltb, eqb→eq, leb→le, ltb→lt}
use lib.ListN.{length}
use mir.Facts.{and_yes}
use Rattle.reply.specs.Bytes.{Bytes, Whole}
use Rattle.tree.specs.Tree.{Label}
use Rattle.tree.proofs.Tests.{all, all_at, every_below, every_below_lem, less_test, equal_test, and_test, or_test}
use Rattle.query.specs.Kind.{Sort, path, filter, Operand, unused, of, Row, kinds, find}
use Rattle.query.specs.Table.{Entry, Entries, entries, entry_at, row_at, HasSort, LabelField, OperandField, EntryRight}
use Rattle.query.specs.Table.{read_on, height, operand_height, height_at}
use Rattle.query.specs.Fault.{filters, EntryFits}
use Rattle.view.specs.Annotation.{AnnotationRecord, records, record_at, Ascends, AboveLast, RecordRight}
use Rattle.view.specs.Promise.{Annotated}

-- a row is there, and passes
unfoldable pub on_row : (Row → Bool) → Option Row → Bool
on_row test none = false
on_row test (some row) = test row

on_row_lem : (test : Row → Bool) (o : Option Row) → T (on_row test o) → (row : Row) × (o ≡ some row) × T (test row)
unfolding on_row
on_row_lem test none h = absurd h
on_row_lem test (some row) h = (row, refl, h)

unfoldable pub same_sort : Sort → Sort → Bool
same_sort path path = true
same_sort path filter = false
same_sort filter path = false
same_sort filter filter = true

same_sort_lem : (s u : Sort) → T (same_sort s u) → s ≡ u
unfolding same_sort
same_sort_lem path path h = refl
same_sort_lem path filter h = absurd h
same_sort_lem filter path h = absurd h
same_sort_lem filter filter h = refl

is_label : ℕ → Bool
is_label l = leb 1 l && leb l 64

is_label_lem : (l : ℕ) → T (is_label l) → Label l
unfolding is_label
is_label_lem l h = let (least, most) = and_yes (leb 1 l) (leb l 64) h in record { least = leb→le 1 l least; most = leb→le l 64 most }

label_field : Bool → ℕ → Bool
unfolding is_label
label_field true l = is_label l
label_field false l = eqb l 0

label_field_lem : (used : Bool) (l : ℕ) → T (label_field used l) → LabelField used l
unfolding label_field LabelField
label_field_lem true l h = is_label_lem l h
label_field_lem false l h = eqb→eq l 0 h

module _ (es : Entries) where
  has_sort : ℕ → Sort → Bool
  unfolding on_row same_sort row_at entry_at kinds find
  has_sort i s = on_row (λ row. same_sort row.sort s) (row_at es i)

  has_sort_lem : (i : ℕ) (s : Sort) → T (has_sort i s) → HasSort es i s
  unfolding has_sort
  has_sort_lem i s h =
      let (row, listed, same) = on_row_lem (λ row. same_sort row.sort s) (row_at es i) h in
      record { row = row; listed = listed; sort = same_sort_lem row.sort s same }

  operand_field : ℕ → Operand → ℕ → Bool
  unfolding has_sort
  operand_field i unused x = eqb x 0
  operand_field i (of s) x = ltb x i && has_sort x s

  operand_field_lem : (i : ℕ) (o : Operand) (x : ℕ) → T (operand_field i o x) → OperandField es i o x
  unfolding operand_field OperandField
  operand_field_lem i unused x h = eqb→eq x 0 h
  operand_field_lem i (of s) x h = let (before, sorted) = and_yes (ltb x i) (has_sort x s) h in (ltb→lt x i before, has_sort_lem x s sorted)

  field_tests : ℕ → Row → List Bool
  unfolding label_field operand_field
  field_tests i row =
      let e : Entry = entry_at es i in
      label_field row.label e.label ∷ operand_field i row.left e.left ∷ operand_field i row.right e.right ∷ []

  is_entry : ℕ → Bool
  unfolding field_tests all
  is_entry i = on_row (λ row. all (field_tests i row)) (row_at es i)

  is_entry_lem : (i : ℕ) → T (is_entry i) → EntryRight es i
  unfolding is_entry field_tests
  is_entry_lem i h =
      let (row, listed, fields) = on_row_lem (λ row. all (field_tests i row)) (row_at es i) h in
      let passed = all_at (field_tests i row) fields in
      let e : Entry = entry_at es i in
      record {
        row = row;
        listed = listed;
        label = label_field_lem row.label e.label (passed 0);
        left = operand_field_lem i row.left e.left (passed 1);
        right = operand_field_lem i row.right e.right (passed 2);
      }

-- whole records of six bytes, at most so many
whole_tests : ℕ → Bytes → List Bool
whole_tests limit b = eqb (length b % 6) 0 ∷ leb (length b) (6 * limit) ∷ []

is_whole : (limit : ℕ) (b : Bytes) → T (all (whole_tests limit b)) → Whole 6 limit b
unfolding whole_tests
is_whole limit b h =
    let passed = all_at (whole_tests limit b) h in
    record { multiple = eqb→eq (length b % 6) 0 (passed 0); most = leb→le (length b) (6 * limit) (passed 1) }

-- entry i of a filter table
fit_tests : Bytes → ℕ → List Bool
unfolding is_entry entries height_at read_on height operand_height
fit_tests b i = is_entry (entries b) i ∷ leb (height_at (entries b) i) filters.height ∷ []

fits : (b : Bytes) (i : ℕ) → T (all (fit_tests b i)) → EntryFits filters b i
unfolding fit_tests
fits b i h =
    let passed = all_at (fit_tests b i) h in
    record { right = is_entry_lem (entries b) i (passed 0); low = leb→le (height_at (entries b) i) filters.height (passed 1) }

-- r's pair is below s's
ascends : AnnotationRecord → AnnotationRecord → Bool
ascends r s = ltb r.parent s.parent || (eqb r.parent s.parent && ltb r.child s.child)

above_last : List AnnotationRecord → ℕ → Bool
unfolding ascends record_at
above_last rs zero = true
above_last rs (suc i) = ascends (record_at rs i) (record_at rs (suc i))

above_last_lem : (rs : List AnnotationRecord) (i : ℕ) → T (above_last rs i) → AboveLast rs i
unfolding above_last ascends AboveLast Ascends
above_last_lem rs zero h = tt
above_last_lem rs (suc i) h =
    let r : AnnotationRecord = record_at rs i in
    let s : AnnotationRecord = record_at rs (suc i) in
    let behind = and_test (equal_test r.parent s.parent) (less_test r.child s.child) in
    (or_test (less_test r.parent s.parent) behind).exact.0 h

module _ (es : Entries) (b : Bytes) where
  record_tests : ℕ → List Bool
  unfolding is_label has_sort above_last records
  record_tests i =
      let r : AnnotationRecord = record_at (records b) i in
      is_label r.parent
      ∷ is_label r.child
      ∷ eqb r.rest 0
      ∷ ltb r.filter (length es)
      ∷ has_sort es r.filter filter
      ∷ above_last (records b) i
      ∷ []

  record_right : (i : ℕ) → T (all (record_tests i)) → RecordRight es b i
  unfolding record_tests
  record_right i h =
      let r : AnnotationRecord = record_at (records b) i in
      let passed = all_at (record_tests i) h in
      record {
        form = record {
          parent = is_label_lem r.parent (passed 0);
          child = is_label_lem r.child (passed 1);
          rest = eqb→eq r.rest 0 (passed 2);
          named = ltb→lt r.filter (length es) (passed 3);
          filter = has_sort_lem es r.filter filter (passed 4);
        };
        ascends = above_last_lem (records b) i (passed 5);
      }

module _ (annotation table : Bytes) where
  -- a filter entry is in order, and a record is
  fit : ℕ → Bool
  unfolding fit_tests
  fit i = all (fit_tests table i)

  right : ℕ → Bool
  unfolding record_tests
  right i = all (record_tests (entries table) annotation i)

  -- the filter table, then the annotation
  annotated_tests : List Bool
  unfolding whole_tests every_below fit right
  annotated_tests =
      all (whole_tests 256 table)
      ∷ every_below (length (entries table)) fit
      ∷ all (whole_tests 32 annotation)
      ∷ every_below (length (records annotation)) right
      ∷ []

  unfoldable pub is_annotated : Bool
  unfolding annotated_tests
  is_annotated = all annotated_tests

  pub is_annotated_lem : T is_annotated → Annotated annotation table
  unfolding is_annotated
  is_annotated_lem h =
      let passed = all_at annotated_tests h in
      record {
        table = record {
          size = is_whole 256 table (passed 0);
          entry = λ i l. fits table i (every_below_lem (length (entries table)) fit (passed 1) i l);
        };
        records = record {
          size = is_whole 32 annotation (passed 2);
          each = λ i l. record_right (entries table) annotation i (every_below_lem (length (records annotation)) right (passed 3) i l);
        };
      }
