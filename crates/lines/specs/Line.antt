-- The line that the program writes for a reply: "For each it writes `A`, the count and the positions ascending, or `R`, number and place,
-- with single spaces."
use Rattle.std.specs.Prelude.{ℕ, zero, suc, ◌+◌, ◌/◌, ◌%◌, ◌≡◌, cond, List, [], ◌∷◌, ◌++◌, eqb, ltb, length}
use Prim.Native.Char.{code}
use Rattle.reply.specs.Bytes.{Bytes, Written}
use Rattle.reply.specs.Reply.{Said, count, refused}
use Rattle.answer.specs.Bitmap.{bit}

-- At most `most` digits of a number, with no zero in front: those before the last one, and the last one. The digit d is the byte
-- `code "0" + d`.
unfoldable pub digits : ℕ → ℕ → Bytes
digits zero n = []
digits (suc most) n = cond (ltb n 10) [] (digits most (n / 10)) ++ (code "0" + n % 10) ∷ []

-- A number in decimal. It has at most n + 1 digits.
unfoldable pub decimal : ℕ → Bytes
decimal n = digits (suc n) n

-- Numbers, with a single space before each.
unfoldable pub spaced : List ℕ → Bytes
spaced [] = []
spaced (n ∷ more) = code " " ∷ decimal n ++ spaced more

-- The positions below n that are in a bitmap, ascending.
unfoldable pub positions : Bytes → ℕ → List ℕ
positions map zero = []
positions map (suc k) = positions map k ++ cond (eqb (bit map k) 1) (k ∷ []) []

-- The line for what is said, with the bitmap that goes with a count, and the line feed behind it.
unfoldable pub line_of : Said → Bytes → Bytes
line_of (count n) map = code "A" ∷ spaced (n ∷ positions map 4096) ++ code "\n" ∷ []
line_of (refused n p) map = code "R" ∷ spaced (n ∷ p ∷ []) ++ code "\n" ∷ []

-- The line stands in front of the lent bytes, and the count is its length.
pub record LineGiven (said : Said) (map before : Bytes) (c : ℕ) (after : Bytes) : Type 0 where
  pub count : c ≡ length (line_of said map)
  pub written : Written before (line_of said map) after

-- A space and a count of at most 20 digits, 4,096 positions with a space and at most 4 digits each, the letter and the line feed.
abbrev pub longest : ℕ
longest = 20503
