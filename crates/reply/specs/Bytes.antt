-- The bytes that a call takes or is lent, as lists of numbers.
use Rattle.std.specs.Prelude.{ℕ, ◌+◌, ◌*◌, ◌/◌, ◌%◌, ◌≤◌, ◌≡◌, List, [], ◌∷◌, ◌++◌, length, drop}

abbrev pub Bytes : Type 0
Bytes = List ℕ

-- "All two-byte numbers have the low byte first."
abbrev pub two : ℕ → ℕ → ℕ
two low high = low + 256 * high

unfoldable pub two_bytes : ℕ → Bytes
two_bytes n = n % 256 ∷ n / 256 % 256 ∷ []

-- The bytes are whole records of `size` bytes, and at most `limit` of them.
pub record Whole (size limit : ℕ) (b : Bytes) : Type 0 where
  pub multiple : length b % size ≡ 0
  pub most : length b ≤ size * limit

-- `front` is written; "bytes behind what is written stay as they were".
pub record Written (before front after : Bytes) : Type 0 where
  pub room : length front ≤ length before
  pub bytes : after ≡ front ++ drop (length front) before
