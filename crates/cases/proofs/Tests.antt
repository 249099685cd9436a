-- Tests of lists: whether two are the same, and whether a number stands in one. Assumes nothing.
use Prim.Native.Nat.{ℕ}
use mathlib.Core.Path.{◌≡◌, refl, ap₂}
use mathlib.Core.Logic.{⊎_elim}
use mathlib.Core.Bool.{Bool, true, false, ◌&&◌, ◌||◌}
use mathlib.Core.List.Memᴰ
use mathlib.Core.List.{List, [], ◌∷◌, Memᴰ}
use lib.Dec.{T, eqb, eqb→eq}
use mir.Facts.{and_yes}
use Rattle.tree.proofs.Tests.{Decides, equal_test, or_test, same_test}

-- whether two lists are the same, by a test of their elements
unfoldable pub same_list : {A : Type 0} → (A → A → Bool) → List A → List A → Bool
same_list same [] [] = true
same_list same [] (y ∷ ys) = false
same_list same (x ∷ xs) [] = false
same_list same (x ∷ xs) (y ∷ ys) = same x y && same_list same xs ys

pub same_list_lem : {A : Type 0} (same : A → A → Bool) → ((x y : A) → T (same x y) → x ≡ y) → (xs ys : List A) → T (same_list same xs ys)
    → xs ≡ ys
unfolding same_list
same_list_lem same right [] [] h = refl
same_list_lem same right [] (y ∷ ys) h = absurd h
same_list_lem same right (x ∷ xs) [] h = absurd h
same_list_lem same right (x ∷ xs) (y ∷ ys) h =
    let (e, rest) = and_yes (same x y) (same_list same xs ys) h in
    ap₂ ◌∷◌ (right x y e) (same_list_lem same right xs ys rest)

-- two lists of numbers
abbrev pub same_numbers : List ℕ → List ℕ → Bool
same_numbers = same_list eqb

pub same_numbers_lem : (xs ys : List ℕ) → T (same_numbers xs ys) → xs ≡ ys
same_numbers_lem = same_list_lem eqb eqb→eq

-- whether a number is listed
unfoldable pub is_in : List ℕ → ℕ → Bool
is_in [] k = false
is_in (x ∷ more) k = eqb k x || is_in more k

pub is_in_lem : (xs : List ℕ) (k : ℕ) → Decides (is_in xs k) (Memᴰ k xs)
unfolding is_in
is_in_lem [] k = record { exact = (λ h. absurd h, λ m. absurd (Memᴰ.not-nil m)) }
is_in_lem (x ∷ more) k = same_test (or_test (equal_test k x) (is_in_lem more k)) (λ h. ⊎_elim Memᴰ.head Memᴰ.tail h, Memᴰ.cases_cons)
