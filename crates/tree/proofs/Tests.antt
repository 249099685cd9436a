-- Tests that decide statements, and tests made of such tests. Assumes nothing.
use Prim.Native.Nat.{ℕ, zero, suc, ◌≤◌, ◌<◌}
use native.Mathlib.Omega.{arith}
use native.Mathlib.Nat.{eq-or-lt_of_le}
use mathlib.Core.Path.{◌≡◌, sym, subst}
use mathlib.Core.Logic.Iff
use mathlib.Core.Logic.{◌↔◌, ◌⊎◌, inl, inr, ⊎_elim, ⊎_map}
use mathlib.Core.Bool.{Bool, true, false, cond, not, ◌&&◌, ◌||◌}
use mathlib.Core.List.{List, [], ◌∷◌}
use lib.ListN.{get_or}
use lib.Dec.{T, T_not, not_T, ltb, eqb, ltb→lt, lt→ltb, eqb→eq, eqb_refl}
use mir.Facts.{and_yes, yes_and, or_yes}

-- the test passes exactly where the statement holds
pub record Decides (b : Bool) (A : Type 0) : Type 0 where
  pub exact : T b ↔ A

-- a test decides whether it passes
pub passes : (b : Bool) → Decides b (T b)
passes b = record { exact = Iff.rfl }

pub less_test : (m n : ℕ) → Decides (ltb m n) (m < n)
less_test m n = record { exact = (ltb→lt m n, lt→ltb m n) }

pub equal_test : (m n : ℕ) → Decides (eqb m n) (m ≡ n)
equal_test m n = record { exact = (eqb→eq m n, λ e. subst (λ (k : ℕ). T (eqb m k)) e (eqb_refl m)) }

-- a disjunction passes where a part of it does
yes_or : (a b : Bool) → T a ⊎ T b → T (a || b)
yes_or true b x = tt
yes_or false b x = elim x [ inl y ↦ absurd y | inr y ↦ y ]

-- conjunction and disjunction of tests
module _ {a b : Bool} {A B : Type 0} (left : Decides a A) (right : Decides b B) where
  pub and_test : Decides (a && b) (A × B)
  and_test = record { exact = Iff.trans (and_yes a b, λ (x, y). yes_and a b x y) (Iff.and left.exact right.exact) }

  pub or_test : Decides (a || b) (A ⊎ B)
  or_test = record { exact = Iff.trans (or_yes a b, yes_or a b) (⊎_map left.exact.0 right.exact.0, ⊎_map left.exact.1 right.exact.1) }

module _ {b : Bool} {A : Type 0} (test : Decides b A) where
  -- negation of a test
  pub not_test : Decides (not b) (¬ A)
  not_test = record { exact = Iff.trans (T_not b, not_T b) (Iff.not test.exact) }

  -- a test of one statement is a test of any other that says the same
  pub same_test : {B : Type 0} → A ↔ B → Decides b B
  same_test e = record { exact = Iff.trans test.exact e }

-- what has a test is decided
pub decided : {b : Bool} {A : Type 0} → Decides b A → Dec A
decided {b = true} test = yes (test.exact.0 tt)
decided {b = false} test = no test.exact.1

-- what a branch on a negated test tells of the statement, where it turns away
pub test_failed : (b : Bool) {A : Type 0} → T b ↔ A → b ≡ false → ¬ A
test_failed b exact e a = subst T e (exact.1 a)

-- and where it lets on
pub test_passed : (b : Bool) {A : Type 0} → T b ↔ A → b ≡ true → A
test_passed b exact e = exact.0 (subst T (sym e) tt)

-- what holds of both branches holds of a choice by a test
pub choice : {A : Type 0} (P : A → Type 0) (b : Bool) (x y : A) → (T b → P x) → (T (not b) → P y) → P (cond b x y)
choice P true x y f g = f tt
choice P false x y f g = g tt

-- all of some tests pass
unfoldable pub all : List Bool → Bool
all [] = true
all (b ∷ more) = b && all more

pub all_at : (tests : List Bool) → T (all tests) → (k : ℕ) → T (get_or tests k true)
unfolding all
all_at [] h k = tt
all_at (b ∷ more) h zero = (and_yes b (all more) h).0
all_at (b ∷ more) h (suc k) = all_at more (and_yes b (all more) h).1 k

-- the test passes at every number below n
unfoldable pub every_below : ℕ → (ℕ → Bool) → Bool
every_below zero test = true
every_below (suc n) test = test n && every_below n test

pub every_below_lem : (n : ℕ) (test : ℕ → Bool) → T (every_below n test) → (i : ℕ) → i < n → T (test i)
unfolding every_below
every_below_lem zero test h i l = absurd (omega arith)
every_below_lem (suc n) test h i l =
    let both = and_yes (test n) (every_below n test) h in
    let last : i ≤ n = omega arith in
    ⊎_elim (λ e. subst (λ (k : ℕ). T (test k)) (sym e) both.0) (λ k. every_below_lem n test both.1 i k) (eq-or-lt_of_le last)
