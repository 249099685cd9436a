-- A set of nodes that has a test has a bitmap, drawn by the test. Assumes nothing.
use Prim.Native.Nat.{ℕ, zero, suc, ◌+◌, ◌*◌, ◌/◌, ◌%◌, ◌^◌, ◌<◌}
use native.Mathlib.Nat.{div-one, pow-suc}
use native.Mathlib.Omega.{arith}
use mathlib.Core.Path.{◌≡◌, refl, sym, ap, ◌∙◌, subst}
use mathlib.Core.Logic.{◌↔◌}
use mathlib.Core.Bool.{Bool, true, false}
use mathlib.Core.List.{[], ◌∷◌}
use lib.Dec.{T}
use lib.ListN.{length, get_or}
use Rattle.reply.specs.Bytes.{Bytes}
use Rattle.answer.specs.Bitmap.{bit, Bitmap}
use Rattle.answer.proofs.Unique.{of_half}

-- a digit is 1 where the test passes
unfoldable pub digit : Bool → ℕ
digit true = 1
digit false = 0

-- the number of n digits, lowest first, that say where the test passes from k on
unfoldable pub digits : (ℕ → Bool) → ℕ → ℕ → ℕ
unfolding digit
digits test k zero = 0
digits test k (suc n) = digit (test k) + 2 * digits test (suc k) n

-- n bytes of eight such digits each
unfoldable pub drawn : (ℕ → Bool) → ℕ → ℕ → Bytes
unfolding digits
drawn test k zero = []
drawn test k (suc n) = digits test k 8 ∷ drawn test (8 + k) n

digit_right : (b : Bool) → (digit b ≡ 1) ↔ T b
unfolding digit
digit_right true = (λ e. tt, λ t. refl)
digit_right false = (λ e. omega arith, λ t. absurd t)

digit_low : (b : Bool) → digit b < 2
unfolding digit
digit_low true = omega arith
digit_low false = omega arith

module _ (test : ℕ → Bool) where
  digits_low : (k n : ℕ) → digits test k n < 2 ^ n
  unfolding digits
  digits_low k zero = omega arith
  digits_low k (suc n) = omega (arith, digit_low (test k), digits_low (suc k) n, pow-suc 2 n)

  -- each digit is the test's
  digit_at : (k n i : ℕ) → i < n → digits test k n / 2 ^ i % 2 ≡ digit (test (k + i))
  unfolding digits
  digit_at k zero i l = absurd (omega arith)
  digit_at k (suc n) zero l =
      let here : k + 0 ≡ k = omega arith in
      rw (here, div-one) (omega (arith, digit_low (test k)))
  digit_at k (suc n) (suc i) l =
      let there : k + suc i ≡ suc k + i = omega arith in
      let x : ℕ = digit (test k) + 2 * digits test (suc k) n in
      let half : x / 2 ≡ digits test (suc k) n = omega (arith, digit_low (test k)) in
      ap (λ (y : ℕ). y % 2) (sym (of_half x i) ∙ ap (λ (y : ℕ). y / 2 ^ i) half)
      ∙ digit_at (suc k) n i (omega arith)
      ∙ ap (λ (y : ℕ). digit (test y)) (sym there)

  drawn_length : (k n : ℕ) → length (drawn test k n) ≡ n
  unfolding drawn
  drawn_length k zero = refl
  drawn_length k (suc n) = ap suc (drawn_length (8 + k) n)

  -- each byte has the digits from its first node on
  byte_at : (k n i : ℕ) → i < n → get_or (drawn test k n) i 0 ≡ digits test (8 * i + k) 8
  unfolding drawn
  byte_at k zero i l = absurd (omega arith)
  byte_at k (suc n) zero l = let here : k ≡ 8 * 0 + k = omega arith in ap (λ (x : ℕ). digits test x 8) here
  byte_at k (suc n) (suc i) l =
      let later : 8 * i + (8 + k) ≡ 8 * suc i + k = omega arith in byte_at (8 + k) n i (omega arith) ∙ ap (λ (x : ℕ). digits test x 8) later

  bytes_low : (k n i : ℕ) → get_or (drawn test k n) i 0 < 256
  unfolding drawn
  bytes_low k zero i = omega arith
  bytes_low k (suc n) zero = digits_low k 8
  bytes_low k (suc n) (suc i) = bytes_low (8 + k) n i

  -- what is drawn is the bitmap of the nodes that pass
  pub drawn_right : Bitmap (λ k. T (test k)) (drawn test 0 512)
  unfolding bit
  drawn_right = record {
    size = drawn_length 0 512;
    bytes = bytes_low 0 512;
    ones = λ k l.
        let first : ℕ = 8 * (k / 8) + 0 in
        let node : first + k % 8 ≡ k = omega arith in
        let here : bit (drawn test 0 512) k ≡ digit (test k) =
        ap (λ (x : ℕ). x / 2 ^ (k % 8) % 2) (byte_at 0 512 (k / 8) (omega arith))
        ∙ digit_at first 8 (k % 8) (omega arith)
        ∙ ap (λ (x : ℕ). digit (test x)) node in
        subst (λ (x : ℕ). (x ≡ 1) ↔ T (test k)) (sym here) (digit_right (test k));
  }
