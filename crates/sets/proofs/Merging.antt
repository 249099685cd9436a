-- Two sets made into one: what is made of the digits of their words is made of the sets. Assumes nothing.
use Prim.Native.Nat.{ℕ, ◌^◌, ◌<◌}
use mathlib.Core.Path.{◌≡◌}
use mathlib.Core.Logic.Iff
use mathlib.Core.Logic.{◌↔◌, ◌⊎◌, inl, ⊎_elim, ⊎_map}
use mathlib.Core.List.{List}
use lib.ListN.{length, get_or}
use lib.Bits.{bit_and, bit_or}
use mir.Syntax.{w64}
use Rattle.std.specs.Int.{bit_not}
use Rattle.sets.specs.Bits.{digit}
use Rattle.sets.specs.Sets.{In, Holds}
use Rattle.sets.proofs.Digits.{or_one, and_one, minus_one}
use Rattle.sets.proofs.Words.{in_word, in_below, holds_words}

-- a digit of what is made of two words is what K makes of their digits, and K makes nothing of nothing
pub record Law (K : Type 0 → Type 0 → Type 0) (made : ℕ → ℕ → ℕ) : Type 1 where
  pub digits : (a b k : ℕ) → b < 2 ^ 64 → k < 64 → (digit (made a b) k ≡ 1) ↔ K (digit a k ≡ 1) (digit b k ≡ 1)
  pub same : {P Q P' Q' : Type 0} → P ↔ P' → Q ↔ Q' → K P Q ↔ K P' Q'
  pub within : {P Q : Type 0} → K P Q → P ⊎ Q

pub either : Law (λ P Q. P ⊎ Q) bit_or
either = record { digits = λ a b k f l. or_one a b k; same = λ f g. (⊎_map f.0 g.0, ⊎_map f.1 g.1); within = λ x. x }

pub both : Law (λ P Q. P × Q) bit_and
both = record { digits = λ a b k f l. and_one a b k; same = Iff.and; within = λ (x, y). inl x }

pub first : Law (λ P Q. P × ¬ Q) (λ a b. bit_and a (bit_not w64 b))
first = record { digits = minus_one; same = λ f g. Iff.and f (Iff.not g); within = λ (x, y). inl x }

-- words that are made so are what K makes of the sets
pub made_sets : {K : Type 0 → Type 0 → Type 0} {made : ℕ → ℕ → ℕ} → Law K made → (a b r : List ℕ)
    → length a ≡ 64 → length b ≡ 64 → length r ≡ 64 → ((j : ℕ) → get_or b j 0 < 2 ^ 64)
    → ((j : ℕ) → j < 64 → get_or r j 0 ≡ made (get_or a j 0) (get_or b j 0)) → Holds (λ k. K (In a k) (In b k)) r
made_sets law a b r long_a long_b long fits each =
    holds_words r long (λ k x. ⊎_elim (in_below a long_a k) (in_below b long_b k) (law.within x))
    (λ j l. record {
      exact = λ k h. rw (each j l)
          (Iff.trans (law.digits (get_or a j 0) (get_or b j 0) k (fits j) h) (law.same (in_word a j k h) (in_word b j k h)));
    })
