-- A set whose members are moved up by one, word by word: the last digit of each word goes to the next word. Assumes nothing.
use Prim.Native.Nat.{ℕ, zero, suc, ◌+◌, ◌*◌, ◌/◌, ◌%◌, ◌^◌, ◌<◌}
use native.Mathlib.Nat.{add-zero}
use native.Mathlib.Omega.{arith}
use mathlib.Core.Path.{◌≡◌, sym, ap, subst, ◌∙◌}
use mathlib.Core.Logic.Iff
use mathlib.Core.Logic.{◌↔◌, ◌⊎◌, inl, inr, ⊎_elim}
use lib.Bits.{bit_or}
use Rattle.sets.specs.Bits.{digit}
use Rattle.sets.proofs.Digits.{digit_zero, digit_suc, digit_mod, digit_above, or_one}
use Rattle.sets.proofs.Words.{Word}

-- what is right behind a number with the property
abbrev pub Behind : (ℕ → Type 0) → ℕ → Type 0
Behind P q = (p : ℕ) × (p + 1 ≡ q) × P p

-- the digit that a word leaves over: it is 1 if the first number of word w is behind one with the property
pub record Over (P : ℕ → Type 0) (w last : ℕ) : Type 0 where
  pub digit_only : last < 2
  pub exact : (last ≡ 1) ↔ Behind P (64 * w)

-- nothing is before the first word
pub none_over : {P : ℕ → Type 0} → Over P 0 0
none_over = record { digit_only = omega arith; exact = (λ e. absurd (omega arith), λ (p, e, x). absurd (omega arith)) }

-- twice a number has its digits one further
twice_zero : (n : ℕ) → ¬ (digit (n * 2 ^ 1) zero ≡ 1)
twice_zero n e = omega (arith, digit_zero (n * 2 ^ 1))

twice_suc : (n k : ℕ) → digit (n * 2 ^ 1) (suc k) ≡ digit n k
twice_suc n k = let half : n * 2 ^ 1 / 2 ≡ n = omega arith in digit_suc (n * 2 ^ 1) k ∙ ap (λ (x : ℕ). digit x k) half

module _ (P : ℕ → Type 0) (w n : ℕ) (has : (k : ℕ) → k < 64 → (digit n k ≡ 1) ↔ P (64 * w + k)) where
  -- a word is made of the one that stood there and what the word before left over
  pub word_moved : {last : ℕ} → Over P w last → Word 64 (Behind P) w (bit_or (n * 2 ^ 1 % 2 ^ 64) last)
  word_moved {last} over = record {
    exact = λ k l.
        Iff.trans (or_one (n * 2 ^ 1 % 2 ^ 64) last k)
        (rw (digit_mod (n * 2 ^ 1) 64 k l) (at k l));
  }
    where
      at : (k : ℕ) → k < 64 → ((digit (n * 2 ^ 1) k ≡ 1) ⊎ (digit last k ≡ 1)) ↔ Behind P (64 * w + k)
      at zero l =
          let only : digit last zero ≡ last = omega (arith, digit_zero last, over.digit_only) in
          rw (add-zero (64 * w))
          (⊎_elim (λ e. absurd (twice_zero n e)) (λ e. over.exact.0 (sym only ∙ e)), λ x. inr (only ∙ over.exact.1 x))
      at (suc k) l =
          let low : k < 64 = omega arith in (
            ⊎_elim (λ e. (64 * w + k, omega arith, (has k low).0 (sym (twice_suc n k) ∙ e)))
                (λ e. absurd (omega (arith, digit_above 1 (suc k) over.digit_only (omega arith)))),
            λ (p, next, x).
                let same : p ≡ 64 * w + k = omega arith in
                inl (twice_suc n k ∙ (has k low).1 (subst P same x)),
          )

  -- and leaves its own last digit over
  pub word_over : n < 2 ^ 64 → Over P (w + 1) (n / 2 ^ 63)
  unfolding digit
  word_over fits =
      let low : n / 2 ^ 63 < 2 = omega arith in
      let only : digit n 63 ≡ n / 2 ^ 63 = omega arith in
      let own = has 63 (omega arith) in
      record {
        digit_only = low;
        exact = (
          λ e. (64 * w + 63, omega arith, own.0 (only ∙ e)),
          λ (p, next, x). let same : p ≡ 64 * w + 63 = omega arith in sym only ∙ own.1 (subst P same x),
        );
      }
