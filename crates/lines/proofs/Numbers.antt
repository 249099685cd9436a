-- A number's digits: those of its tenth and one more. How many they are. Assumes nothing.
use Prim.Native.Nat.{ℕ, zero, suc, ◌+◌, ◌/◌, ◌%◌, ◌^◌, ◌≤◌, ◌<◌}
use native.Mathlib.Decide.{dec_lt}
use native.Mathlib.Omega.{arith}
use mathlib.Core.Path.{◌≡◌, refl, ap, ◌∙◌}
use mathlib.Core.Bool.{cond}
use mathlib.Core.List.{[], ◌∷◌, ◌++◌}
use lib.Dec.{ltb}
use lib.ListN.{length, length-append}
use borrow.Author.Tests.{lt-ltb, le-ltb}
use Rattle.reply.specs.Bytes.{Bytes}
use Rattle.lines.specs.Line.{digits, decimal}

-- room for more digits than a number has changes nothing
enough : (k m n : ℕ) → n < k → n < m → digits k n ≡ digits m n
unfolding digits
enough zero m n l h = absurd (omega arith)
enough (suc k) zero n l h = absurd (omega arith)
enough (suc k) (suc m) n l h = by (dec_lt n 10) (λ large. enough k m (n / 10) (omega arith) (omega arith))
  where
    by : Dec (n < 10) → (¬ (n < 10) → digits k (n / 10) ≡ digits m (n / 10)) → digits (suc k) n ≡ digits (suc m) n
    by (yes small) rest = rw (lt-ltb n 10 small) refl
    by (no large) rest = ap (λ (b : Bytes). cond (ltb n 10) [] b ++ (48 + n % 10) ∷ []) (rest large)

-- a number below ten is one digit
pub decimal_small : (n : ℕ) → n < 10 → decimal n ≡ (48 + n % 10) ∷ []
unfolding decimal digits
decimal_small n small = rw (lt-ltb n 10 small) refl

-- any other is the digits of its tenth, and one more
pub decimal_large : (n : ℕ) → 10 ≤ n → decimal n ≡ decimal (n / 10) ++ (48 + n % 10) ∷ []
unfolding decimal digits
decimal_large n large =
    rw (le-ltb n 10 large)
    (ap (λ (b : Bytes). b ++ (48 + n % 10) ∷ []) (enough n (suc (n / 10)) (n / 10) (omega arith) (omega arith)))

-- how many digits that are
pub one_digit : (n : ℕ) → n < 10 → length (decimal n) ≡ 1
one_digit n small = ap length (decimal_small n small)

pub one_digit_more : (n : ℕ) → 10 ≤ n → length (decimal n) ≡ length (decimal (n / 10)) + 1
one_digit_more n large = ap length (decimal_large n large) ∙ length-append (decimal (n / 10)) ((48 + n % 10) ∷ [])

-- a number below 10 ^ k has at most k digits
pub few_digits : (k n : ℕ) → n < 10 ^ suc k → length (decimal n) ≤ suc k
few_digits zero n l = omega (arith, one_digit n (omega arith))
few_digits (suc k) n l = by (dec_lt n 10) (few_digits k (n / 10) (omega arith))
  where
    by : Dec (n < 10) → length (decimal (n / 10)) ≤ suc k → length (decimal n) ≤ suc (suc k)
    by (yes small) rest = omega (arith, one_digit n small)
    by (no large) rest = omega (arith, one_digit_more n (omega arith))
