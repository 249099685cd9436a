-- A row that is found for a number stands in the list, so that what holds of an entry is shown for each row of it. Assumes nothing.
use Prim.Native.Nat.{ℕ}
use native.Mathlib.Omega.{arith}
use mathlib.Core.Path.{◌≡◌, refl, sym}
use mathlib.Core.Bool.{Bool, true, false}
use mathlib.Core.List.{List, [], ◌∷◌}
use mathlib.Core.Option.{some}
use lib.Dec.{eqb}
use borrow.Author.Tests.{eqb-true}
use Rattle.query.specs.Kind.{Row, kinds, find, row_of}

-- what holds of each row of a list
infixr 4 ◌&◌
pub data Each (P : Row → Type 0) : List Row → Type 0 where
  no_more : Each P []
  ◌&◌ : {row : Row} {more : List Row} → P row → Each P more → Each P (row ∷ more)

-- holds of a row that is found, which has the number looked for
found : (P : Row → Type 0) (n : ℕ) (rows : List Row) {row : Row} → Each P rows → find n rows ≡ some row → P row × (row.number ≡ n)
unfolding find
found P n [] no_more e = let z : ◌≡◌ {A = ℕ} 0 1 = cc in absurd (omega arith)
found P n (first ∷ more) {row} (here & each) e = go (found P n more each) (eqb n first.number) refl e
  where
    go : (find n more ≡ some row → P row × (row.number ≡ n)) → (b : Bool) → eqb n first.number ≡ b
        → elim b [ true ↦ some first | false ↦ find n more ] ≡ some row → P row × (row.number ≡ n)
    go rest true h x = let same : first ≡ row = cc in (rw same at here, rw (← same) (sym (eqb-true n first.number h)))
    go rest false h x = rest x

-- so of the row that the list of kinds has for a number
pub row_found : (P : Row → Type 0) → Each P kinds → {n : ℕ} {row : Row} → row_of n ≡ some row → P row × (row.number ≡ n)
row_found P each {n} e = found P n kinds each e
