-- A set's bytes, written in front of a room, are its bitmap there, and its ones are counted. And what a room with a bitmap in front shows.
-- Assumes nothing.
use Prim.Native.Nat.{ℕ, ◌/◌, ◌≤◌, ◌<◌}
use native.Mathlib.Omega.{arith}
use mathlib.Core.Path.{◌≡◌, refl, sym, ap, ◌∙◌}
use mathlib.Core.Logic.Iff
use mathlib.Core.Logic.{◌↔◌}
use mathlib.Core.List.{List, ◌++◌}
use lib.ListN.{length, get_or, take, drop, get_or-append}
use lib.Seq.{take-length, take_at}
use mir.Val.{Fits}
use mir.Syntax.{w8, w64}
use Rattle.reply.specs.Reply.{Said, count}
use Rattle.reply.specs.Bytes.{Bytes}
use Rattle.sets.specs.Bits.{digit, bit_of, ones}
use Rattle.sets.specs.Sets.{In, Holds}
use Rattle.sets.proofs.Size.{bytes_ones}
use Rattle.answer.specs.Bitmap.{bit, Bitmap, SetGiven}
use Rattle.answer.specs.Given.{BitmapGiven}

module _ (set map : List ℕ) (words : length set ≡ 64) (bytes : length map ≡ 512)
    (fits : (j : ℕ) → Fits w64 (get_or set j 0)) (low : (j : ℕ) → Fits w8 (get_or map j 0))
    (same : (k : ℕ) → k < 4096 → bit_of 8 map k ≡ bit_of 64 set k) where
  -- the bytes are the set's bitmap
  set_bitmap : Bitmap (In set) map
  unfolding bit bit_of digit
  set_bitmap = record {
    size = bytes;
    bytes = λ i. (low i).fits;
    ones = λ k l. (λ e. record { one = sym (same k l) ∙ e }, λ x. same k l ∙ x.one);
  }

  pub set_given : {n : ℕ} {before after : Bytes} → n ≡ ones set → 512 ≤ length before → after ≡ take (length map) map ++ drop (length map) before
      → BitmapGiven (In set) before (count n) after
  set_given {n} {before} {after} counted room copied = record {
    ones = n;
    counted = refl;
    given = record {
      map = map;
      is = set_bitmap;
      count = counted ∙ sym (bytes_ones set map words bytes (λ j. (fits j).fits) (λ j. (low j).fits) same);
      written = record { room = omega arith; bytes = rw take-length at copied };
    };
  }

-- the bitmap of a set is given for whatever the set holds
pub given_as : {P : ℕ → Type 0} {set : List ℕ} {before after : Bytes} {s : Said} → Holds P set → BitmapGiven (In set) before s after
    → (n : ℕ) × (s ≡ count n) × SetGiven P before n after
given_as holds g =
    let is = g.given.is in (
      g.ones,
      g.counted,
      record {
        map = g.given.map;
        is = record { size = is.size; bytes = is.bytes; ones = λ k l. Iff.trans (is.ones k l) (holds.exact k) };
        count = g.given.count;
        written = g.given.written;
      },
    )

module _ {P : ℕ → Type 0} {before after : Bytes} {n : ℕ} (g : SetGiven P before n after) where
  -- the bitmap stands in the first 512 bytes of the room
  pub given_front : take 512 after ≡ g.map
  given_front = ap (take 512) g.written.bytes ∙ take_at _ _ 512 g.is.size

  -- so each of their bits tells whether its node is in the set
  pub given_bit : (k : ℕ) → k < 4096 → (bit after k ≡ 1) ↔ P k
  unfolding bit
  given_bit k l =
      let same : get_or after (k / 8) 0 ≡ get_or g.map (k / 8) 0 =
      ap (λ (b : Bytes). get_or b (k / 8) 0) g.written.bytes ∙ get_or-append g.map _ 0 (k / 8) (omega (arith, g.is.size)) in
      rw same (g.is.ones k l)
