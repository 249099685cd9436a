-- The list of kinds: "for each kind the list below says which operands it takes".
use Rattle.std.specs.Prelude.{ℕ, Bool, true, false, List, [], ◌∷◌, eqb}
use Rattle.std.proofs.Math.Option.{Option, none, some}

pub data Sort : Type 0 where
  path filter : Sort

-- What an operand's field holds: nothing, or the number of an entry of a sort.
pub data Operand : Type 0 where
  unused : Operand
  of : Sort → Operand

pub data Kind : Type 0 where
  self child parent next previous stay then either star : Kind
  labelled leads always never not and or : Kind

pub record Row : Type 0 where
  pub number : ℕ
  pub kind : Kind
  pub sort : Sort
  pub left : Operand
  pub right : Operand
  pub label : Bool

abbrev row : ℕ → Kind → Sort → Operand → Operand → Row
row number kind sort left right = record { number = number; kind = kind; sort = sort; left = left; right = right; label = false }

-- 16, "label is the given one (1 to 64)": the one kind that uses its label field
abbrev label_row : Row
label_row = record { number = 16; kind = labelled; sort = filter; left = unused; right = unused; label = true }

unfoldable pub kinds : List Row
kinds =
    row 1 self path unused unused
    ∷ row 2 child path unused unused
    ∷ row 3 parent path unused unused
    ∷ row 4 next path unused unused
    ∷ row 5 previous path unused unused
    ∷ row 6 stay path (of filter) unused
    ∷ row 7 then path (of path) (of path)
    ∷ row 8 either path (of path) (of path)
    ∷ row 9 star path (of path) unused
    ∷ label_row
    ∷ row 17 leads filter (of path) unused
    ∷ row 18 always filter unused unused
    ∷ row 19 never filter unused unused
    ∷ row 20 not filter (of filter) unused
    ∷ row 21 and filter (of filter) (of filter)
    ∷ row 22 or filter (of filter) (of filter)
    ∷ []

-- the row with a number
unfoldable pub find : ℕ → List Row → Option Row
find n [] = none
find n (r ∷ more) = elim (eqb n r.number) [ true ↦ some r | false ↦ find n more ]

abbrev pub row_of : ℕ → Option Row
row_of n = find n kinds
