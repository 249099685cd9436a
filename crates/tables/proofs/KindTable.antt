-- The constant table over kind numbers says what the list of kinds says: it is computed from the list, and no kind stands behind it.
-- Assumes nothing.
use Prim.Native.Nat.{ℕ, ◌≤◌, ◌<◌}
use native.Mathlib.Omega.{arith}
use mathlib.Core.Path.{◌≡◌, refl, sym, ap, ◌∙◌}
use mathlib.Core.Logic.{◌≢◌}
use mathlib.Core.List.{List, [], ◌∷◌, map}
use Rattle.std.proofs.lemmas.List.FromFn.{get_or-map-range_with_len}
use Rattle.std.specs.List.{range_with_len}
use mathlib.Core.Option.{Option, none, some-ne-none}
use mathlib.Core.Bool.{Bool, true, false, ◌&&◌}
use lib.Dec.{T, ltb, ltb→lt}
use lib.ListN.{get_or}
use mir.Facts.{and_yes}
use borrow.Author.Tests.{ne_eqb}
use Rattle.std.specs.Prelude.{Option as Maybe, Some, None}
use Rattle.query.specs.Kind.{path, filter, Operand, unused, of, Row, kinds, find, row_of}
use Rattle.tables.specs.declared.kinds.Kind.{Kind}
use Rattle.tables.specs.declared.kinds.Kind.TheVariants.{Itself, Child, Parent, Next, Previous, Stay, Then, Either, Star, Labelled, Leads, Always, Never, Not, And, Or}
use Rattle.tables.specs.Kind.{number}
use Rattle.tables.specs.declared.kinds.Row.{Row as Written}
use Rattle.tables.specs.declared.kinds.Sort.{Sort}
use Rattle.tables.specs.declared.kinds.Sort.TheVariants.{Path, Filter}
use Rattle.tables.specs.Shape.{operand, sort_of, left_of, right_of, label_of, Listed}

-- the field of an operand
abbrev field : Operand → Maybe Sort
field unused = None
field (of path) = Some Path
field (of filter) = Some Filter

-- says the operand
field_lem : (o : Operand) → operand (field o) ≡ o
field_lem unused = refl
field_lem (of path) = refl
field_lem (of filter) = refl

-- the fields of a row
unfoldable pub fields_of : Option Row → Written
fields_of row = (field (sort_of row), field (left_of row), field (right_of row), label_of row)

-- say the row: taken apart, they are its sort, those of its operands, and whether it uses its label
pub taken_apart : (row : Option Row) → Listed row (fields_of row)
unfolding fields_of
taken_apart row =
    record { sort = field_lem (sort_of row); left = field_lem (left_of row); right = field_lem (right_of row); label = refl }

-- the table of the fields of each kind's row, which is what the code's constant table computes to, says what the list says
pub table_right : (kind : ℕ) (d : Written) → kind < 23 → Listed (row_of kind) (get_or (map (λ k. fields_of (row_of k)) (range_with_len 0 23)) kind d)
table_right kind d l = rw (get_or-map-range_with_len (λ k. fields_of (row_of k)) 0 23 kind kind d l (omega arith)) (taken_apart (row_of kind))

-- every row has a number below n
unfoldable numbers_below : ℕ → List Row → Bool
numbers_below n [] = true
numbers_below n (row ∷ more) = ltb row.number n && numbers_below n more

-- a number that no row reaches has no row
find_beyond : (n k : ℕ) (rows : List Row) → T (numbers_below n rows) → n ≤ k → find k rows ≡ none
unfolding numbers_below find
find_beyond n k [] t l = refl
find_beyond n k (row ∷ more) t l =
    let both = and_yes (ltb row.number n) (numbers_below n more) t in
    let below : row.number < n = ltb→lt row.number n both.0 in
    rw (ne_eqb k row.number (λ e. omega arith), find) (find_beyond n k more both.1 l)

-- there is no kind behind 22
pub no_kind : (kind : ℕ) → 23 ≤ kind → Listed (row_of kind) (None, None, None, false)
unfolding kinds numbers_below
no_kind kind l = rw (find_beyond 23 kind kinds tt l) (record { sort = refl; left = refl; right = refl; label = refl })

-- every case of the code's enum is in the list of kinds
listed : (k : Kind) → row_of (number k) ≢ none
unfolding kinds find
listed Itself e = some-ne-none _ e
listed Child e = some-ne-none _ e
listed Parent e = some-ne-none _ e
listed Next e = some-ne-none _ e
listed Previous e = some-ne-none _ e
listed Stay e = some-ne-none _ e
listed Then e = some-ne-none _ e
listed Either e = some-ne-none _ e
listed Star e = some-ne-none _ e
listed Labelled e = some-ne-none _ e
listed Leads e = some-ne-none _ e
listed Always e = some-ne-none _ e
listed Never e = some-ne-none _ e
listed Not e = some-ne-none _ e
listed And e = some-ne-none _ e
listed Or e = some-ne-none _ e

-- so a number that is not in the list is that of no case
pub unlisted : {n : ℕ} → row_of n ≡ none → (k : Kind) → n ≢ number k
unlisted gone k e = listed k (ap row_of (sym e) ∙ gone)
