-- The rows for who is visible and for the four axes stand for the filter for visible and for the axes' formulas: computed once, over what
-- the two entries before them stand for. Assumes nothing.
use Prim.Native.Nat.{ℕ, zero, suc, ◌+◌, ◌≤◌, ◌<◌}
use native.Mathlib.Nat.{zero-add, add-zero}
use native.Mathlib.Omega.{arith}
use mathlib.Core.Path.{◌≡◌, refl}
use mathlib.Core.List.{List, [], ◌∷◌, ◌++◌, map}
use lib.Dec.{T, lit<, lit≤}
use lib.ListN.{length, get_or}
use Rattle.query.specs.Syntax.{Path, Filter, parent, stay, then, star, leads, not, or}
use Rattle.query.specs.Kind.{kinds, find}
use Rattle.query.specs.Table.{Entry, Entries, read_on, operand_height, height, Meant, a_path, a_filter, the_path, the_filter, path_in, filter_in, build, mean}
use Rattle.axes.proofs.Formulas as formulas
use Rattle.written.specs.Written.{raise, axis_rows, axis_row}
use Rattle.written.proofs.Stands.{nothing, Stands, Sound, EntryBehind, behind_as, Ordered, Stood, Next, entry_behind}
use Rattle.written.proofs.Patterns.{InTurn, pattern_stood, pattern_sound, turn_test, row_test, named_test, label_test, same_sort, turn_tested, low_test, low_tested}

-- up, past nodes that no record is for, to the root or to a node that a record shows
abbrev pub seen_by : Filter → Filter → Filter
seen_by own shown = leads (then (star (then (stay (not own)) parent)) (stay (or (not (leads parent)) shown)))

-- what the two entries before the rows stand for
abbrev pub given : Filter → Filter → List Meant
given own shown = a_filter own ∷ a_filter shown ∷ []

module _ (own shown : Filter) where
  -- what the rows stand for, behind the two
  unfoldable pub rows_meant : List Meant
  rows_meant = read_on mean (given own shown) axis_rows

  rows_in_turn : InTurn (given own shown) axis_rows
  unfolding axis_rows turn_test row_test named_test label_test same_sort mean build kinds find
  rows_in_turn = turn_tested (given own shown) axis_rows tt

-- the heights of the rows, where the two before them count as 0
unfoldable pub rows_heights : List ℕ
rows_heights = read_on height (0 ∷ 0 ∷ []) axis_rows

rows_low : (k : ℕ) → get_or rows_heights k 0 ≤ 19
unfolding rows_heights low_test axis_rows read_on height operand_height kinds find
rows_low = low_tested 19 rows_heights tt

-- A row that stands for an axis of the view, numbered among all of them.
pub record AxisRow (own shown : Filter) (row : Entry) (p : Path) : Type 0 where
  pub ordered : Ordered (rows_meant own shown) row
  pub means : mean (rows_meant own shown) row ≡ a_path p
  pub low : height rows_heights row ≤ 19

-- the four axes
pub record AxisRows (own shown : Filter) : Type 0 where
  pub down : AxisRow own shown (axis_row 18) (formulas.down (seen_by own shown))
  pub up : AxisRow own shown (axis_row 22) (formulas.up (seen_by own shown))
  pub forwards : AxisRow own shown (axis_row 44) (formulas.forwards (seen_by own shown))
  pub backwards : AxisRow own shown (axis_row 55) (formulas.backwards (seen_by own shown))

module _ (own shown : Filter) where
  alone : (row : Entry) → T (turn_test (rows_meant own shown) (row ∷ [])) → Ordered (rows_meant own shown) row
  unfolding InTurn
  alone row t = (turn_tested (rows_meant own shown) (row ∷ []) t).0

  pub axis_rows_lem : AxisRows own shown
  unfolding rows_meant rows_heights axis_rows read_on mean build height operand_height kinds find path_in filter_in the_path the_filter
      turn_test row_test named_test label_test same_sort
      formulas.down formulas.up formulas.forwards formulas.backwards formulas.skip formulas.onwards formulas.back
  axis_rows_lem =
      record {
        down = record { ordered = alone (axis_row 18) tt; means = refl; low = lit≤ tt };
        up = record { ordered = alone (axis_row 22) tt; means = refl; low = lit≤ tt };
        forwards = record { ordered = alone (axis_row 44) tt; means = refl; low = lit≤ tt };
        backwards = record { ordered = alone (axis_row 55) tt; means = refl; low = lit≤ tt };
      }

  -- row 12 is the filter for visible
  pub visible_row : get_or (rows_meant own shown) 12 nothing ≡ a_filter (seen_by own shown)
  unfolding rows_meant axis_rows read_on mean build kinds find path_in filter_in the_path the_filter
  visible_row = refl

  pub rows_many : 12 < length (rows_meant own shown)
  unfolding rows_meant axis_rows read_on
  rows_many = lit< tt

-- The rows behind a table whose last two entries say whether some record is the node's and whether some record shows it, each at most c
-- high.
module _ {own shown : Filter} {table : Entries} {c d : ℕ} (size : length table ≡ 2 + d) (owns : Stands table d (a_filter own) c)
    (shows : Stands table (1 + d) (a_filter shown) c) where
  first_two : Stood c (λ x. x + d) (given own shown) (0 ∷ 0 ∷ []) table
  first_two = record { size = refl; each = at }
    where
      at : (k : ℕ) → k < 2 → Stands table (k + d) (get_or (given own shown) k nothing) (c + get_or (0 ∷ 0 ∷ []) k 0)
      at zero l = rw (zero-add, add-zero) owns
      at (suc zero) l = rw add-zero shows
      at (suc (suc k)) l = absurd (omega arith)

  rows_next : Next (λ x. x + d) (given own shown) table
  rows_next = record { place = λ k j l. omega arith }

  -- what the rows mean stands behind the table
  pub rows_stood : Stood c (λ x. x + d) (rows_meant own shown) rows_heights (table ++ map (raise d) axis_rows)
  unfolding rows_meant rows_heights
  rows_stood = pattern_stood axis_rows (rows_in_turn own shown) rows_next first_two

  pub rows_sound : {h : ℕ} → c + 19 ≤ h → Sound table h → Sound (table ++ map (raise d) axis_rows) h
  unfolding rows_heights
  rows_sound l = pattern_sound axis_rows (rows_in_turn own shown) rows_next first_two (λ k. omega (arith, rows_low k))

-- a copy of an axis's row stands for the axis, behind any table in which the rows stand
pub axis_behind : {own shown : Filter} {table : Entries} {c : ℕ} (d : ℕ) {row : Entry} {p : Path}
    → Stood c (λ x. x + d) (rows_meant own shown) rows_heights table → AxisRow own shown row p
    → EntryBehind table (raise d row) (a_path p) (c + 19)
axis_behind {c = c} d stood axis = behind_as (omega (arith, axis.low)) (rw axis.means at (entry_behind stood axis.ordered))
