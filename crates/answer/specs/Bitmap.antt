-- Sets of nodes as bitmaps, and the count that goes with one.
use Rattle.std.specs.Prelude.{ℕ, ◌/◌, ◌%◌, ◌^◌, ◌<◌, ◌≡◌, ◌↔◌, length, get_or}
use Rattle.reply.specs.Bytes.{Bytes, Written}
use Rattle.sets.specs.Bits.{ones}

-- "In a bitmap, node k is the bit of weight 2^(k mod 8) in byte k div 8."
unfoldable pub bit : Bytes → ℕ → ℕ
bit map k = get_or map (k / 8) 0 / 2 ^ (k % 8) % 2

-- The bitmap of a set of nodes: 512 bytes, a one for each of its nodes.
pub record Bitmap (Set : ℕ → Type 0) (map : Bytes) : Type 0 where
  pub size : length map ≡ 512
  pub bytes : (i : ℕ) → get_or map i 0 < 256
  pub ones : (k : ℕ) → k < 4096 → (bit map k ≡ 1) ↔ Set k

-- "All 512 bytes are written, and the count returned is the number of ones in them."
pub record SetGiven (Set : ℕ → Type 0) (before : Bytes) (c : ℕ) (after : Bytes) : Type 0 where
  pub map : Bytes
  pub is : Bitmap Set map
  pub count : c ≡ ones map
  pub written : Written before map after
