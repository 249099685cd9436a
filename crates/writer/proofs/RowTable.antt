-- The constant table of rows is the list of rows. Assumes nothing.
use Prim.Native.Nat.{ℕ, ◌<◌}
use native.Mathlib.Omega.{arith}
use mathlib.Core.Path.{◌≡◌, refl, sym, ap, ◌∙◌}
use mathlib.Core.List.{map}
use lib.ListN.{get_or, get_or-map, length-map}
use Rattle.std.proofs.lemmas.List.{get_or_default}
use Rattle.query.specs.Table.{Entry, Entries}
use Rattle.written.specs.Written.{entry, axis_rows, axis_row}
use Rattle.tables.specs.Kind.{number}
use Rattle.writer.specs.declared.rows.Row.{Row}
use Rattle.writer.specs.declared.rows.TheConstants.{ROWS}

-- the entry of a row
abbrev pub entry_of : Row → Entry
entry_of row = entry (number row.0) row.1 row.2

-- the table has all rows
rows_right : map entry_of ROWS ≡ axis_rows
unfolding axis_rows
rows_right = refl

-- so it is right at each of them
pub row_right : (k : ℕ) → k < 56 → (d : Row) → entry_of (get_or ROWS k d) ≡ axis_row k
row_right k l d =
    sym (get_or-map entry_of ROWS k d)
    ∙ get_or_default (map entry_of ROWS) k (entry_of d) (entry 0 0 0) (omega (arith, length-map ROWS entry_of))
    ∙ ap (λ (es : Entries). get_or es k (entry 0 0 0)) rows_right
