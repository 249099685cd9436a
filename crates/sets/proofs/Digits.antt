-- Laws of single digits, for all numbers: what the operations on words do to a digit, and how a loop takes the lowest one out.
-- Assumes nothing.
use Prim.Native.Nat.{ℕ, zero, suc, ◌+◌, ◌-◌, ◌*◌, ◌/◌, ◌%◌, ◌^◌, min, max, ◌≤◌, ◌<◌}
use native.Mathlib.Nat.{one-mul}
use native.Mathlib.Decide.{ℕ_discrete, dec_lt}
use native.Mathlib.Numerals.{add-one}
use native.Mathlib.Omega.{arith}
use mathlib.Core.Path.{◌≡◌, refl, sym, ap, ◌∙◌}
use mathlib.Core.Logic.Iff
use mathlib.Core.Logic.{◌≢◌, ◌↔◌, ◌⊎◌, inl, inr, ⊎_elim, ⊎_map}
use lib.Dec.{lit<}
use lib.Pow.{pow_pos, shr-shr, shl_exact, field, mod-mod-pow}
use lib.Bits.{bit_and, bit_or, bit_xor}
use lib.Bits.{and_le_l, and_le_r, or_add_and, xor_add_and}
use lib.Count.{count_trailing_zeros}
use mir.Syntax.{w64}
use Rattle.std.specs.Int.{bit_not}
use Rattle.std.proofs.lemmas.Nat.Bits.{bit_at_lowest, bit_at-suc, bit_at-zero, bit_at-lt, bit_at_above, bit_at_and, bit_at_or, bit_at_xor, bit_at_not}
use Rattle.std.proofs.lemmas.Nat.Bits.{and_pow, bit_at-pow_same, bit_at-pow_other, bit_at_ones, bit_at_ones_above, bit_at-trailing_zeros, same_from_bits_below}
use Rattle.sets.specs.Bits.{digit}
use Rattle.sets.specs.Ones.{Taken}

-- ---- a digit

pub digit_below : (n k : ℕ) → digit n k < 2
unfolding digit
digit_below n k = bit_at-lt n k

-- a digit that is not 1 is 0
pub not_one : (n k : ℕ) → ¬ (digit n k ≡ 1) → digit n k ≡ 0
not_one n k f = let h = digit_below n k in omega arith

pub zero_or_one : (n k : ℕ) → (digit n k ≡ 0) ⊎ (digit n k ≡ 1)
zero_or_one n k = either (digit n k) (digit_below n k)
  where
    either : (d : ℕ) → d < 2 → (d ≡ 0) ⊎ (d ≡ 1)
    either zero h = inl refl
    either (suc zero) h = inr refl
    either (suc (suc d)) h = absurd (omega arith)

-- two digits are equal where both are 1 or neither
pub same_digit : (m j n k : ℕ) → (digit m j ≡ 1) ↔ (digit n k ≡ 1) → digit m j ≡ digit n k
same_digit m j n k (f, g) = ⊎_elim (λ z. z ∙ sym (not_one n k (λ o. let h = g o in omega arith))) (λ o. o ∙ sym (f o)) (zero_or_one m j)

-- the lowest digit, and the others
pub digit_zero : (n : ℕ) → digit n zero ≡ n % 2
unfolding digit
digit_zero n = bit_at_lowest n

pub digit_suc : (n k : ℕ) → digit n (suc k) ≡ digit (n / 2) k
unfolding digit
digit_suc n k = bit_at-suc n k

-- the digits of n / 2 ^ k are those of n from k on
pub digit_shr : (n k j : ℕ) → digit (n / 2 ^ k) j ≡ digit n (k + j)
unfolding digit
digit_shr n k j = ap (λ (x : ℕ). x % 2) (shr-shr n k j)

-- above a number's digits all are 0
pub digit_above : {n : ℕ} (w k : ℕ) → n < 2 ^ w → w ≤ k → digit n k ≡ 0
unfolding digit
digit_above {n} w k h l = bit_at_above n w k h l

-- the digits below m of what is left by 2 ^ m
pub digit_mod : (n m k : ℕ) → k < m → digit (n % 2 ^ m) k ≡ digit n k
digit_mod n zero k l = absurd (omega arith)
digit_mod n (suc m) zero l = digit_zero (n % 2 ^ suc m) ∙ rw (sym (add-one m)) (mod-mod-pow n m 1) ∙ sym (digit_zero n)
digit_mod n (suc m) (suc k) l =
    digit_suc (n % 2 ^ suc m) k ∙ ap (λ (x : ℕ). digit x k) (rw (sym (add-one m)) (field n m 1))
    ∙ digit_mod (n / 2) m k (omega arith) ∙ sym (digit_suc n k)

-- a number with no digit is 0
pub digits_none : (w n : ℕ) → n < 2 ^ w → ((k : ℕ) → k < w → digit n k ≡ 0) → n ≡ 0
unfolding digit
digits_none w n h none = same_from_bits_below w n 0 h (pow_pos w) (λ k l. none k l ∙ sym (bit_at-zero k))

-- ---- the operations

-- a digit of each
pub digit_and : (a b k : ℕ) → digit (bit_and a b) k ≡ min (digit a k) (digit b k)
unfolding digit
digit_and a b k = bit_at_and a b k

pub digit_or : (a b k : ℕ) → digit (bit_or a b) k ≡ max (digit a k) (digit b k)
unfolding digit
digit_or a b k = bit_at_or a b k

pub digit_xor : (a b k : ℕ) → digit (bit_xor a b) k ≡ (digit a k + digit b k) % 2
unfolding digit
digit_xor a b k = bit_at_xor a b k

-- what is 1 in both, and in either
pub and_one : (a b k : ℕ) → (digit (bit_and a b) k ≡ 1) ↔ ((digit a k ≡ 1) × (digit b k ≡ 1))
and_one a b k =
    let e = digit_and a b k in
    let p = digit_below a k in
    let q = digit_below b k in
    (λ h. (omega arith, omega arith), λ (h, h'). omega arith)

pub or_one : (a b k : ℕ) → (digit (bit_or a b) k ≡ 1) ↔ ((digit a k ≡ 1) ⊎ (digit b k ≡ 1))
or_one a b k =
    let e = digit_or a b k in
    let p = digit_below a k in
    let q = digit_below b k in
    (λ h. ⊎_elim (λ z. inr (omega arith)) inl (zero_or_one a k), ⊎_elim (λ h. omega arith) (λ h. omega arith))

-- an or is 0 where both numbers are
pub or_none : (a b : ℕ) → (bit_or a b ≡ 0) ↔ ((a ≡ 0) × (b ≡ 0))
or_none a b =
    let sum = or_add_and a b in
    let l = and_le_l a b in
    let r = and_le_r a b in
    (λ e. (omega arith, omega arith), λ (x, y). omega arith)

-- what is 1 in the first and not in the second
pub minus_one : (a b k : ℕ) → b < 2 ^ 64 → k < 64 → (digit (bit_and a (bit_not w64 b)) k ≡ 1) ↔ ((digit a k ≡ 1) × ¬ (digit b k ≡ 1))
unfolding digit
minus_one a b k f l =
    let e = digit_and a (bit_not w64 b) k in
    let turned = bit_at_not w64 b k f l in
    let p = digit_below a k in
    let q = digit_below b k in
    (λ h. (omega arith, λ o. omega arith), λ (h, out). omega arith)

-- ---- one digit alone, and the lowest of them

pub zero_digit : (k : ℕ) → digit 0 k ≡ 0
unfolding digit
zero_digit k = bit_at-zero k

pub none_of_zero : {n : ℕ} (k : ℕ) → n ≡ 0 → ¬ (digit n k ≡ 1)
none_of_zero k e o = let z = ap (λ (x : ℕ). digit x k) e ∙ zero_digit k in omega arith

-- 2 ^ k has digit k alone
pub digit_pow : (k j : ℕ) → (digit (2 ^ k) j ≡ 1) ↔ (k ≡ j)
unfolding digit
digit_pow k j =
    elim (ℕ_discrete j k) [
      | yes e ↦ (λ o. sym e, λ same. rw e (bit_at-pow_same k))
      | no n ↦ let z = bit_at-pow_other k j n in (λ o. absurd (omega arith), λ same. absurd (n (sym same)))
    ]

-- 2 ^ m - 1 has the digits below m
pub digit_low : (m j : ℕ) → (digit (2 ^ m - 1) j ≡ 1) ↔ (j < m)
unfolding digit
digit_low m j =
    elim (dec_lt j m) [
      | yes l ↦ (λ o. l, λ h. bit_at_ones m j l)
      | no past ↦ let z = bit_at_ones_above m j (omega arith) in (λ o. absurd (omega arith), λ h. absurd (omega arith))
    ]

-- a word's 1 shifted to place k
pub shifted : (w k : ℕ) → k < w → 1 * 2 ^ k % 2 ^ w ≡ 2 ^ k
shifted w k l = shl_exact 1 k w (lit< tt) (omega arith) ∙ one-mul (2 ^ k)

-- the digits below m, as a word's shifted 1 less 1
pub low_shifted : (w m k : ℕ) → m < w → (digit (1 * 2 ^ m % 2 ^ w - 1) k ≡ 1) ↔ (k < m)
low_shifted w m k l = rw (shifted w m l) (digit_low m k)

-- digit k put into a number
pub put_in : (w n k : ℕ) → k < w → (j : ℕ) → (digit (bit_or n (1 * 2 ^ k % 2 ^ w)) j ≡ 1) ↔ ((digit n j ≡ 1) ⊎ (k ≡ j))
put_in w n k l j =
    let one = digit_pow k j in
    rw (shifted w k l) (Iff.trans (or_one n (2 ^ k) j) (⊎_map (λ e. e) one.0, ⊎_map (λ e. e) one.1))

-- a digit taken out of a word
pub taken : (n k : ℕ) → k < 64 → digit n k ≡ 1 → ((j : ℕ) → j < k → ¬ (digit n j ≡ 1)) → Taken n k (bit_xor n (2 ^ k))
unfolding digit
taken n k low e lower = record { low = low; one = e; lowest = lower; others = others; less = less }
  where
    less : bit_xor n (2 ^ k) < n
    less =
        let p = pow_pos k in
        let both : bit_and n (2 ^ k) ≡ 2 ^ k = and_pow n k ∙ ap (λ (x : ℕ). x * 2 ^ k) e ∙ one-mul (2 ^ k) in
        omega (arith, xor_add_and n (2 ^ k))

    others : (j : ℕ) → (digit (bit_xor n (2 ^ k)) j ≡ 1) ↔ ((digit n j ≡ 1) × (j ≢ k))
    others j =
        let sum = digit_xor n (2 ^ k) j in
        let b = digit_below n j in
        let one = digit_pow k j in
        let here : j ≡ k → digit n j ≡ 1 = λ same. ap (digit n) same ∙ e in
        ⊎_elim
        (λ z. (λ h. (omega arith, λ same. let o = one.1 (sym same) in omega arith), λ (h, other). omega arith))
        (λ o. (λ h. let d = here (sym (one.0 o)) in absurd (omega arith), λ (h, other). absurd (other (sym (one.0 o)))))
        (zero_or_one (2 ^ k) j)

-- the lowest digit of a word that is not 0
pub lowest : (n : ℕ) → n ≢ 0 → n < 2 ^ 64 → (count_trailing_zeros 64 n < 64) × (digit n (count_trailing_zeros 64 n) ≡ 1)
unfolding digit
lowest n f h = let (low, one, _) = bit_at-trailing_zeros w64 n (omega arith) h in (low, one)

-- below it there is none
none_lower : (n : ℕ) → n ≢ 0 → n < 2 ^ 64 → (j : ℕ) → j < count_trailing_zeros 64 n → ¬ (digit n j ≡ 1)
unfolding digit
none_lower n f h j l o =
    let (_, _, none) = bit_at-trailing_zeros w64 n (omega arith) h in
    let z = none j l in omega arith

-- the lowest: `let k = n.trailing_zeros(); n ^= 1 << k;`
pub take_lowest : (n : ℕ) → n ≢ 0 → n < 2 ^ 64 → Taken n (count_trailing_zeros 64 n) (bit_xor n (1 * 2 ^ count_trailing_zeros 64 n % 2 ^ 64))
take_lowest n f h =
    let (low, one) = lowest n f h in rw (shifted 64 (count_trailing_zeros 64 n) low) (taken n (count_trailing_zeros 64 n) low one (none_lower n f h))
