-- Sets of the nodes of a tree: a list with one Bool for each record. Assumes nothing.
use Prim.Native.Nat.{ℕ, zero, suc, ◌≤◌, ◌<◌, zero-le, suc-le-suc}
use native.Mathlib.Nat.{le-suc, le_trans}
use native.Mathlib.Omega.{arith}
use mathlib.Core.Path.{◌≡◌, refl, ap, subst}
use mathlib.Core.Logic.{◌↔◌, ◌⊎◌, ⊎_elim}
use mathlib.Core.Bool.{Bool, true, false, ◌&&◌, ◌||◌}
use mathlib.Core.List.{List, [], ◌∷◌}
use lib.ListN.{length, get_or}
use lib.Dec.{T, eqb}
use Rattle.tree.proofs.Tests.{Decides, passes, equal_test, and_test, or_test, same_test}

-- i is in s
abbrev pub has : List Bool → ℕ → Bool
has s i = get_or s i false

-- members are below the length
pub has_inside : (s : List Bool) (i : ℕ) → T (has s i) → i < length s
has_inside [] i x = absurd x
has_inside (a ∷ s) zero x = omega arith
has_inside (a ∷ s) (suc i) x = let h = has_inside s i x in omega arith

-- the numbers below n that pass a test
unfoldable pub tabulate : ℕ → (ℕ → Bool) → List Bool
tabulate zero f = []
tabulate (suc n) f = let first = f zero in first ∷ tabulate n (λ k. f (suc k))

pub length_tabulate : (n : ℕ) (f : ℕ → Bool) → length (tabulate n f) ≡ n
unfolding tabulate
length_tabulate zero f = refl
length_tabulate (suc n) f = ap suc (length_tabulate n (λ k. f (suc k)))

-- a table of tests holds what they decide, if that is below n
pub has_tabulate : (n : ℕ) (f : ℕ → Bool) (i : ℕ) {A : Type 0} → Decides (f i) A → (A → i < n) → T (has (tabulate n f) i) ↔ A
unfolding tabulate
has_tabulate zero f i e l = (λ x. absurd x, λ a. let h = l a in absurd (omega arith))
has_tabulate (suc n) f zero e l = e.exact
has_tabulate (suc n) f (suc i) e l = has_tabulate n (λ k. f (suc k)) i e (λ a. let h = l a in omega arith)

-- the set of i alone, among n nodes
unfoldable pub single : ℕ → ℕ → List Bool
unfolding tabulate
single n i = tabulate n (eqb i)

-- its one member
pub has_single : {n i : ℕ} (j : ℕ) → i < n → T (has (single n i) j) ↔ (i ≡ j)
unfolding single
has_single {n} {i} j l = has_tabulate n (eqb i) j (equal_test i j) (λ e. subst (λ (k : ℕ). k < n) e l)

-- what is in s or in s'
unfoldable pub union : List Bool → List Bool → List Bool
unfolding tabulate
union s s' = tabulate (length s) (λ i. has s i || has s' i)

pub has_union : (s s' : List Bool) → length s' ≡ length s → (i : ℕ) → T (has (union s s') i) ↔ (T (has s i) ⊎ T (has s' i))
unfolding union
has_union s s' e i =
    has_tabulate (length s) (λ k. has s k || has s' k) i (or_test (passes (has s i)) (passes (has s' i)))
    (⊎_elim (has_inside s i) (λ x. let h = has_inside s' i x in omega arith))

-- what is in s and passes a test
unfoldable pub keep : (ℕ → Bool) → List Bool → List Bool
unfolding tabulate
keep f s = tabulate (length s) (λ i. has s i && f i)

pub has_keep : (f : ℕ → Bool) (s : List Bool) (i : ℕ) → T (has (keep f s) i) ↔ (T (has s i) × T (f i))
unfolding keep
has_keep f s i = has_tabulate (length s) (λ k. has s k && f k) i (and_test (passes (has s i)) (passes (f i))) (λ x. has_inside s i x.0)

-- s has a member
unfoldable pub any : List Bool → Bool
any [] = false
any (true ∷ s) = true
any (false ∷ s) = any s

-- a member is found where there is one
any_has : (s : List Bool) → T (any s) → (i : ℕ) × T (has s i)
unfolding any
any_has [] x = absurd x
any_has (true ∷ s) x = (zero, tt)
any_has (false ∷ s) x = let y = any_has s x in (suc y.0, y.1)

-- and there is one where one is found
has_any : (s : List Bool) (i : ℕ) → T (has s i) → T (any s)
unfolding any
has_any [] i x = absurd x
has_any (true ∷ s) i x = tt
has_any (false ∷ s) zero x = absurd x
has_any (false ∷ s) (suc i) x = has_any s i x

pub any_test : (s : List Bool) → Decides (any s) ((i : ℕ) × T (has s i))
any_test s = record { exact = (any_has s, λ (i, x). has_any s i x) }

-- some number below n passes a test
unfoldable pub some : ℕ → (ℕ → Bool) → Bool
unfolding tabulate any
some n f = any (tabulate n f)

-- tests of a property below n tell whether anything has it
pub some_test : (n : ℕ) {f : ℕ → Bool} {P : ℕ → Type 0} → ((i : ℕ) → Decides (f i) (P i)) → ((i : ℕ) → P i → i < n)
    → Decides (some n f) ((i : ℕ) × P i)
unfolding some
some_test n {f} {P} test inside = same_test (any_test (tabulate n f)) (λ (i, x). (i, (at i).0 x), λ (i, x). (i, (at i).1 x))
  where
    at : (i : ℕ) → T (has (tabulate n f) i) ↔ P i
    at i = has_tabulate n f i (test i) (inside i)

-- the number of members
unfoldable pub size : List Bool → ℕ
size [] = zero
size (true ∷ s) = suc (size s)
size (false ∷ s) = size s

pub size_bound : (s : List Bool) → size s ≤ length s
unfolding size
size_bound [] = zero-le
size_bound (true ∷ s) = suc-le-suc (size_bound s)
size_bound (false ∷ s) = le_trans (size_bound s) (le-suc (length s))

-- a part has no more members than the whole
pub part_size : (s s' : List Bool) → ((i : ℕ) → T (has s i) → T (has s' i)) → size s ≤ size s'
unfolding size
part_size [] s' part = zero-le
part_size (true ∷ s) [] part = absurd (part zero tt)
part_size (true ∷ s) (true ∷ s') part = suc-le-suc (part_size s s' (λ i. part (suc i)))
part_size (true ∷ s) (false ∷ s') part = absurd (part zero tt)
part_size (false ∷ s) [] part = part_size s [] (λ i. part (suc i))
part_size (false ∷ s) (true ∷ s') part = le_trans (part_size s s' (λ i. part (suc i))) (le-suc (size s'))
part_size (false ∷ s) (false ∷ s') part = part_size s s' (λ i. part (suc i))

-- a part with no fewer members is the whole
pub part_whole : (s s' : List Bool) → length s ≡ length s' → ((i : ℕ) → T (has s i) → T (has s' i)) → size s' ≤ size s → s ≡ s'
unfolding size
part_whole [] [] e part l = refl
part_whole [] (b ∷ s') e part l = absurd (omega arith)
part_whole (a ∷ s) [] e part l = absurd (omega arith)
part_whole (true ∷ s) (true ∷ s') e part l = ap (λ (z : List Bool). true ∷ z) (part_whole s s' (omega arith) (λ i. part (suc i)) (omega arith))
part_whole (true ∷ s) (false ∷ s') e part l = absurd (part zero tt)
part_whole (false ∷ s) (true ∷ s') e part l = let h = part_size s s' (λ i. part (suc i)) in absurd (omega arith)
part_whole (false ∷ s) (false ∷ s') e part l = ap (λ (z : List Bool). false ∷ z) (part_whole s s' (omega arith) (λ i. part (suc i)) l)
