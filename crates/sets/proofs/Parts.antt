-- Several words written at once, and the bytes of a word, the lowest first. Assumes nothing.
use Prim.Native.Nat.{ℕ, zero, suc, ◌+◌, ◌-◌, ◌*◌, ◌/◌, ◌%◌, ◌^◌, ◌≤◌, ◌<◌}
use native.Mathlib.Decide.{dec_lt}
use native.Mathlib.Nat.{div-one}
use native.Mathlib.Omega.{arith}
use mathlib.Core.Path.{◌≡◌, refl, sym, ap, ◌∙◌}
use mathlib.Core.List.{List, ◌++◌}
use lib.ListN.{length, get_or, take, drop, get_or-append, length-drop}
use mir.Syntax.{w64}
use borrow.Rule.Slice.PartMut.{put_mid, post_of, same_len_mid}
use Rattle.std.specs.Int.{to_le_bytes}
use Rattle.std.proofs.lemmas.List.{length-take-le, get_or-take, get_or-drop, get_or-append_right}
use Rattle.sets.specs.Sets.{In}
use Rattle.sets.proofs.Words.{Word, Written, byte_word}

module _ {C : ℕ → ℕ → Type 0} {before words : List ℕ} (i n : ℕ) (ys : List ℕ) (m : Written C before words i) (e : length ys ≡ n) (room : i + n ≤ length before) where
  front : length (take i words) ≡ i
  front = length-take-le i words (omega (arith, m.long))

  below : (j : ℕ) → j < i → get_or (put_mid i n words ys) j 0 ≡ get_or words j 0
  below j h = get_or-append (take i words) (ys ++ post_of i n words) 0 j (omega (arith, front)) ∙ get_or-take i words j 0 h

  inside : (k : ℕ) → get_or (put_mid i n words ys) (i + k) 0 ≡ get_or (ys ++ post_of i n words) k 0
  inside k =
      get_or-append_right (take i words) (ys ++ post_of i n words) i (i + k) 0 front (omega arith)
      ∙ ap (λ (j : ℕ). get_or (ys ++ post_of i n words) j 0) (omega arith)

  behind : (j : ℕ) → i + n ≤ j → get_or (put_mid i n words ys) j 0 ≡ get_or words j 0
  behind j h =
      let k = j - i in
      let at : i + k ≡ j = omega arith in
      let last : i + (n + (k - n)) ≡ j = omega arith in
      ap (λ (j : ℕ). get_or (put_mid i n words ys) j 0) (sym at) ∙ inside k
      ∙ get_or-append_right ys (post_of i n words) n k 0 e (omega arith)
      ∙ get_or-drop n (drop i words) (k - n) 0 ∙ get_or-drop i words (n + (k - n)) 0 ∙ ap (λ (j : ℕ). get_or words j 0) last

  -- a turn of a loop that writes n words at once
  pub part_made : ((k : ℕ) → k < n → C (i + k) (get_or ys k 0)) → Written C before (put_mid i n words ys) (i + n)
  part_made new = record {
    long = same_len_mid i n words ys (e ∙ sym (length-take-le n (drop i words) (omega (arith, m.long, length-drop i words)))) ∙ m.long;
    made = λ j h. elim (dec_lt j i) [
      | yes low ↦ rw (below j low) (m.made j low)
      | no past ↦
          let k = j - i in
          let at : j ≡ i + k = omega arith in
          rw (at, inside k, get_or-append ys (post_of i n words) 0 k (omega arith)) (new k (omega arith))
    ];
    rest = λ j h. behind j h ∙ m.rest j (omega arith);
  }

-- byte k of a word
byte_of : (word k : ℕ) → k < 8 → get_or (to_le_bytes w64 word) k 0 ≡ word / 2 ^ (8 * k) % 2 ^ 8
byte_of word zero l = ap (λ (n : ℕ). n % 256) (sym (div-one word))
byte_of word (suc zero) l = refl
byte_of word (suc (suc zero)) l = refl
byte_of word (suc (suc (suc zero))) l = refl
byte_of word (suc (suc (suc (suc zero)))) l = refl
byte_of word (suc (suc (suc (suc (suc zero))))) l = refl
byte_of word (suc (suc (suc (suc (suc (suc zero)))))) l = refl
byte_of word (suc (suc (suc (suc (suc (suc (suc zero))))))) l = refl
byte_of word (suc (suc (suc (suc (suc (suc (suc (suc k)))))))) l = absurd (omega arith)

-- it has eight bits of the set
pub word_byte : (set : List ℕ) (i k : ℕ) → k < 8 → Word 8 (In set) (8 * i + k) (get_or (to_le_bytes w64 (get_or set i 0)) k 0)
word_byte set i k l =
    let at : (8 * i + k) / 8 ≡ i = omega arith in
    let place : (8 * i + k) % 8 ≡ k = omega arith in
    rw (byte_of (get_or set i 0) k l) (rw (at, place) at (byte_word set (8 * i + k)))
