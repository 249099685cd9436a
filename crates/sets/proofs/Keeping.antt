-- The digits of a word that a test keeps: the digits that have been passed are kept where the test came out true. Assumes nothing.
use Prim.Native.Nat.{ℕ, ◌*◌, ◌%◌, ◌^◌, ◌<◌}
use native.Mathlib.Decide.{ℕ_discrete}
use native.Mathlib.Omega.{arith}
use mathlib.Core.Path.{◌≡◌, refl, sym, subst}
use mathlib.Core.Logic.{◌↔◌, ◌⊎◌, inl, inr, ⊎_elim}
use mathlib.Core.Bool.{Bool, true, false}
use lib.Bits.{bit_or}
use Rattle.sets.specs.Bits.{digit}
use Rattle.sets.specs.Ones.{Taken, Kept}
use Rattle.sets.proofs.Digits.{none_of_zero, zero_or_one, put_in}

pub record KeptSoFar (test : ℕ → Bool → Type 0) (word kept rest : ℕ) : Type 0 where
  pub part : (j : ℕ) → digit rest j ≡ 1 → digit word j ≡ 1
  pub passed : (j : ℕ) → digit kept j ≡ 1 → (digit word j ≡ 1) × test j true
  pub failed : (j : ℕ) → digit word j ≡ 1 → ¬ (digit kept j ≡ 1) → (digit rest j ≡ 1) ⊎ test j false

module _ {test : ℕ → Bool → Type 0} {word : ℕ} where
  pub none_kept : KeptSoFar test word 0 word
  none_kept = record { part = λ j d. d; passed = λ j d. absurd (none_of_zero j refl d); failed = λ j d out. inl d }

  module _ {kept rest k after : ℕ} (before : KeptSoFar test word kept rest) (taken : Taken rest k after) where
    -- a digit is kept
    pub one_kept : test k true → KeptSoFar test word (bit_or kept (1 * 2 ^ k % 2 ^ 64)) after
    one_kept p =
        let put = put_in 64 kept k taken.low in
        record {
          part = λ j d. before.part j ((taken.others j).0 d).0;
          passed = λ j d. ⊎_elim (before.passed j) (λ e. subst (λ (n : ℕ). (digit word n ≡ 1) × test n true) e (before.part k taken.one, p)) ((put j).0 d);
          failed = λ j d out.
              ⊎_elim (λ r. inl ((taken.others j).1 (r, λ e. out ((put j).1 (inr (sym e)))))) inr
              (before.failed j d (λ x. out ((put j).1 (inl x))));
        }

    -- or left out
    pub one_left : test k false → KeptSoFar test word kept after
    one_left p = record {
      part = λ j d. before.part j ((taken.others j).0 d).0;
      passed = before.passed;
      failed = λ j d out.
          ⊎_elim (λ r. elim (ℕ_discrete j k) [
            | yes e ↦ inr (rw e p)
            | no n ↦ inl ((taken.others j).1 (r, n))
          ]) inr (before.failed j d out);
    }

  -- after the last digit
  pub all_kept : {kept rest : ℕ} → KeptSoFar test word kept rest → rest ≡ 0 → Kept test word kept
  all_kept so zero = record {
    passed = λ k l d. so.passed k d;
    failed = λ k l d out. ⊎_elim (λ r. absurd (none_of_zero k zero r)) (λ p. p) (so.failed k d out);
  }

-- where the test says of every place whether it has a property, the digits that have it are kept
pub kept_where : {test : ℕ → Bool → Type 0} {word kept : ℕ} → (P : ℕ → Type 0) → Kept test word kept
    → ((k : ℕ) → k < 64 → test k true → P k) → ((k : ℕ) → k < 64 → test k false → ¬ P k)
    → (k : ℕ) → k < 64 → (digit kept k ≡ 1) ↔ ((digit word k ≡ 1) × P k)
kept_where {kept = kept} P all holds fails k l = (
  λ d. let (one, p) = all.passed k l d in (one, holds k l p),
  λ (d, p). ⊎_elim (λ z. absurd (fails k l (all.failed k l d (λ o. omega arith)) p)) (λ o. o) (zero_or_one kept k),
)
