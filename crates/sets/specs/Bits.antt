-- Lists of words of bits, of any width: bytes have 8 bits, the words of a set 64.
use Rattle.std.specs.Prelude.{ℕ, ◌+◌, ◌/◌, ◌%◌, ◌^◌, List, [], ◌∷◌, get_or}
use Rattle.std.specs.Int.Count as count

-- digit k of a number, from the lowest
unfoldable pub digit : ℕ → ℕ → ℕ
digit n k = n / 2 ^ k % 2

-- bit k of words of `width` bits: the bit of weight 2^(k mod width) in word k div width
unfoldable pub bit_of : ℕ → List ℕ → ℕ → ℕ
unfolding digit
bit_of width words k = digit (get_or words (k / width) 0) (k % width)

-- "the number of ones in them"
unfoldable pub ones : List ℕ → ℕ
ones [] = 0
ones (word ∷ more) = count.ones word + ones more
