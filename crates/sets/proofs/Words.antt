-- Sets by their words: a loop that makes one word after the other makes the set. Assumes nothing.
use Prim.Native.Nat.{ℕ, zero, suc, ◌+◌, ◌*◌, ◌/◌, ◌%◌, ◌^◌, ◌≤◌, ◌<◌}
use native.Mathlib.Nat.{mul_comm, div-add-mod, div-lt_iff_lt-mul, le-div_iff_mul-le, mod-lt, lt_of_not-le}
use native.Mathlib.Decide.{ℕ_discrete, dec_lt}
use native.Mathlib.Omega.{arith}
use mathlib.Core.Path.{◌≡◌, refl, sym, ap, ap₂, subst, ◌∙◌}
use mathlib.Core.Logic.Iff
use mathlib.Core.Logic.{◌↔◌, ◌⊎◌, inl, ⊎_elim, ⊎_map}
use mathlib.Core.List.{List, [], ◌∷◌}
use lib.ListN.{length, get_or, set, replicate, length-set, get_or-eq_default}
use lib.Seq.{get_or-set_same, get_or-set_other}
use lib.Dec.{lit<}
use lib.Arith.{digits_div, digits_mod}
use lib.Count as Count
use lib.Bits.{bit_or}
use borrow.Author.Count.{below_none, below_more}
use Rattle.std.specs.List.{fold, sum_by}
use Rattle.std.proofs.lemmas.List.Sums.{sum_by-cons}
use Rattle.sets.specs.Bits.{digit, bit_of, ones}
use Rattle.sets.specs.Sets.{In, Holds, Inside}
use Rattle.sets.proofs.Digits.{same_digit, digit_mod, digit_shr, zero_digit, none_of_zero, not_one, digits_none}
use Rattle.sets.proofs.Digits.{or_none, put_in}

-- ---- one word

-- the word is word j of words of `width` bits that hold just the numbers with the property
pub record Word (width : ℕ) (P : ℕ → Type 0) (j word : ℕ) : Type 0 where
  pub exact : (k : ℕ) → k < width → (digit word k ≡ 1) ↔ P (width * j + k)

-- bit k of word j
pub bit_at : (width : ℕ) (words : List ℕ) (j k : ℕ) → k < width → bit_of width words (width * j + k) ≡ digit (get_or words j 0) k
unfolding bit_of
bit_at width words j k l =
    ap₂ (λ (q r : ℕ). digit (get_or words q 0) r)
    (ap (λ (n : ℕ). (n + k) / width) (mul_comm width j) ∙ digits_div j l)
    (ap (λ (n : ℕ). (n + k) % width) (mul_comm width j) ∙ digits_mod j l)

pub in_word : (set : List ℕ) (j k : ℕ) → k < 64 → (digit (get_or set j 0) k ≡ 1) ↔ In set (64 * j + k)
in_word set j k l = (λ e. record { one = bit_at 64 set j k l ∙ e }, λ m. sym (bit_at 64 set j k l) ∙ m.one)

-- the digit of a member
pub member : (set : List ℕ) (k : ℕ) → In set k → digit (get_or set (k / 64) 0) (k % 64) ≡ 1
unfolding bit_of
member set k m = m.one

-- the eight bits of a set from 8 * i on
pub byte_word : (set : List ℕ) (i : ℕ) → Word 8 (In set) i (get_or set (i / 8) 0 / 2 ^ (8 * (i % 8)) % 2 ^ 8)
byte_word set i = record { exact = at }
  where
    word : ℕ
    word = get_or set (i / 8) 0

    at : (k : ℕ) → k < 8 → (digit (word / 2 ^ (8 * (i % 8)) % 2 ^ 8) k ≡ 1) ↔ In set (8 * i + k)
    at k l =
        let place : 64 * (i / 8) + (8 * (i % 8) + k) ≡ 8 * i + k = omega arith in
        rw (digit_mod (word / 2 ^ (8 * (i % 8))) 8 k l, digit_shr word (8 * (i % 8)) k)
        (rw place at (in_word set (i / 8) (8 * (i % 8) + k) (omega arith)))

-- ---- all words

-- words of which each is right hold the numbers with the property
pub all_words : {P : ℕ → Type 0} (width : ℕ) (words : List ℕ) → 0 < width → ((j : ℕ) → j < length words → Word width P j (get_or words j 0))
    → (k : ℕ) → k < width * length words → (bit_of width words k ≡ 1) ↔ P k
unfolding bit_of
all_words {P} width words p each k l =
    let inside : k / width < length words = (div-lt_iff_lt-mul p).1 (subst (λ (n : ℕ). k < n) (mul_comm width (length words)) l) in
    subst (λ (n : ℕ). (digit (get_or words (k / width) 0) (k % width) ≡ 1) ↔ P n) (div-add-mod k width)
    ((each (k / width) inside).exact (k % width) (mod-lt k p))

-- past the words there are no bits
pub no_bit : (width : ℕ) (words : List ℕ) → 0 < width → (k : ℕ) → width * length words ≤ k → bit_of width words k ≡ 0
unfolding bit_of
no_bit width words p k l =
    let past : length words ≤ k / width = (le-div_iff_mul-le p).1 (subst (λ (n : ℕ). n ≤ k) (mul_comm width (length words)) l) in
    ap (λ (n : ℕ). digit n (k % width)) (get_or-eq_default words 0 past) ∙ zero_digit (k % width)

-- members of 64 words are below 4096
pub in_below : (set : List ℕ) → length set ≡ 64 → Inside 4096 set
in_below set e k m = lt_of_not-le (λ past. let z = no_bit 64 set (lit< tt) k (omega arith) in let o = m.one in omega arith)

pub holds_words : {P : ℕ → Type 0} (set : List ℕ) → length set ≡ 64 → ((k : ℕ) → P k → k < 4096)
    → ((j : ℕ) → j < 64 → Word 64 P j (get_or set j 0)) → Holds P set
holds_words {P} set e inside each = record {
  exact = λ k. (
    λ m. (at k (in_below set e k m)).0 m.one,
    λ p. record { one = (at k (inside k p)).1 p },
  );
}
  where
    at : (k : ℕ) → k < 4096 → (bit_of 64 set k ≡ 1) ↔ P k
    at k l = all_words 64 set (lit< tt) (λ j h. each j (omega arith)) k (omega arith)

-- words that are all 0 are the empty set
pub zeros : (n j : ℕ) → ◌≡◌ {A = ℕ} (get_or (replicate n 0) j 0) 0
zeros zero j = refl
zeros (suc n) zero = refl
zeros (suc n) (suc j) = zeros n j

pub empty_set : (set : List ℕ) → ((j : ℕ) → get_or set j 0 ≡ 0) → Holds (λ k. ⊥) set
empty_set set none = record { exact = λ k. (λ m. none_of_zero (k % 64) (none (k / 64)) (member set k m), λ p. absurd p) }

-- the digit of k put into word k / 64
pub added : (words : List ℕ) (k : ℕ) → length words ≡ 64 → k < 4096
    → Holds (λ j. In words j ⊎ (k ≡ j)) (set words (k / 64) (bit_or (get_or words (k / 64) 0) (1 * 2 ^ (k % 64) % 2 ^ 64)))
added words k e l =
    holds_words (set words (k / 64) v) (length-set words (k / 64) v ∙ e) (λ j. ⊎_elim (in_below words e j) (λ h. omega arith))
    (λ j h. word j (ℕ_discrete j (k / 64)))
  where
    v : ℕ
    v = bit_or (get_or words (k / 64) 0) (1 * 2 ^ (k % 64) % 2 ^ 64)

    word : (j : ℕ) → Dec (j ≡ k / 64) → Word 64 (λ n. In words n ⊎ (k ≡ n)) j (get_or (set words (k / 64) v) j 0)
    word j (yes same) = rw same (rw (get_or-set_same words (k / 64) v 0 (omega arith)) (record {
      exact = λ b h. Iff.trans (put_in 64 (get_or words (k / 64) 0) (k % 64) (omega arith) b)
          (⊎_map (in_word words (k / 64) b h).0 (λ q. omega arith), ⊎_map (in_word words (k / 64) b h).1 (λ q. omega arith));
    }))
    word j (no other) = rw (get_or-set_other words (k / 64) j v 0 other) (record {
      exact = λ b h. (λ o. inl ((in_word words j b h).0 o), ⊎_elim (in_word words j b h).1 (λ q. absurd (other (omega arith))));
    })

-- the same, where word and digit are told apart
pub added_at : (words : List ℕ) (w k : ℕ) → length words ≡ 64 → w < 64 → k < 64
    → Holds (λ j. In words j ⊎ (64 * w + k ≡ j)) (set words w (bit_or (get_or words w 0) (1 * 2 ^ k % 2 ^ 64)))
added_at words w k e low l =
    let word : (64 * w + k) / 64 ≡ w = omega arith in
    let digit : (64 * w + k) % 64 ≡ k = omega arith in
    rw (word, digit) at (added words (64 * w + k) e (omega arith))

-- ---- the loop

-- the first i of the words are written, word j as C j says, and the others stand as before
pub record Written (C : ℕ → ℕ → Type 0) (before words : List ℕ) (i : ℕ) : Type 0 where
  pub long : length words ≡ length before
  pub made : (j : ℕ) → j < i → C j (get_or words j 0)
  pub rest : (j : ℕ) → i ≤ j → get_or words j 0 ≡ get_or before j 0

-- each so that it is its word of the numbers with the property
abbrev pub Made : ℕ → (ℕ → Type 0) → List ℕ → List ℕ → ℕ → Type 0
Made width P = Written (Word width P)

module _ {C : ℕ → ℕ → Type 0} where
  pub none_made : (words : List ℕ) → Written C words words 0
  none_made words = record { long = refl; made = below_none (λ (j : ℕ). C j (get_or words j 0)); rest = λ j l. refl }

  -- a turn of the loop, which writes word i
  pub one_made : {before words : List ℕ} {i v : ℕ} → Written C before words i → i < length before → C i v
      → Written C before (set words i v) (i + 1)
  one_made {before} {words} {i} {v} m l new = record {
    long = length-set words i v ∙ m.long;
    made = below_more (λ (j : ℕ). C j (get_or (set words i v) j 0)) i
        (λ j h. subst (C j) (sym (get_or-set_other words i j v 0 (λ e. omega arith))) (m.made j h))
        (subst (C i) (sym (get_or-set_same words i v 0 (omega (arith, m.long)))) new);
    rest = λ j h. get_or-set_other words i j v 0 (λ e. omega arith) ∙ m.rest j (omega arith);
  }

-- where the others are as they are to be, all words are
pub all_written : {C : ℕ → ℕ → Type 0} {before words : List ℕ} {i : ℕ} → Written C before words i
    → ((j : ℕ) → i ≤ j → j < 64 → C j (get_or before j 0)) → (j : ℕ) → j < 64 → C j (get_or words j 0)
all_written {i = i} m stays j l =
    elim (dec_lt j i) [
      | yes h ↦ m.made j h
      | no past ↦ rw (m.rest j (omega arith)) (stays j (omega arith) l)
    ]

-- where the others are right as they stand, the words are the set
pub front_made : {P : ℕ → Type 0} {before words : List ℕ} {i : ℕ} (n : ℕ) → Made 64 P before words i → length before ≡ 64
    → n ≤ 64 * i → ((k : ℕ) → n ≤ k → In before k ↔ P k) → ((k : ℕ) → P k → k < 4096) → Holds P words
front_made {P} {before} {words} {i} n m e front right gets =
    holds_words words (m.long ∙ e) gets (λ j h. word j (dec_lt j i))
  where
    word : (j : ℕ) → Dec (j < i) → Word 64 P j (get_or words j 0)
    word j (yes l) = m.made j l
    word j (no past) = rw (m.rest j (omega arith)) (record {
      exact = λ k h. Iff.trans (in_word before j k h) (right (64 * j + k) (omega arith));
    })

-- so they are where none of them had or gets a member
pub none_above : {P : ℕ → Type 0} {before : List ℕ} (n : ℕ) → Inside n before → ((k : ℕ) → P k → k < n)
    → (k : ℕ) → n ≤ k → In before k ↔ P k
none_above n had gets k l = (λ x. absurd (omega (arith, had k x)), λ p. absurd (omega (arith, gets k p)))

-- after the last turn there are no others
pub all_made : {P : ℕ → Type 0} {before words : List ℕ} {i : ℕ} → Made 64 P before words i → length before ≡ 64 → 64 ≤ i
    → ((k : ℕ) → P k → k < 4096) → Holds P words
all_made {before = before} m e l gets = front_made 4096 m e (omega arith) (none_above 4096 (in_below before e) gets) gets

-- and bytes that are made so have the bits of the set
pub bytes_made : {set before bytes : List ℕ} {i : ℕ} → Made 8 (In set) before bytes i → length before ≡ 512 → 512 ≤ i
    → (k : ℕ) → k < 4096 → bit_of 8 bytes k ≡ bit_of 64 set k
unfolding bit_of
bytes_made {set} {bytes = bytes} m e l k h =
    let bit = all_words 8 bytes (lit< tt) (λ j q. m.made j (omega (arith, m.long))) k (omega (arith, m.long)) in
    same_digit (get_or bytes (k / 8) 0) (k % 8) (get_or set (k / 64) 0) (k % 64) (λ o. (bit.0 o).one, λ o. bit.1 (record { one = o }))

-- ---- what the words are asked

-- words or-ed together are 0 where each of them is
pub none_of : (words : List ℕ) (n : ℕ) → (fold bit_or n words ≡ 0) ↔ ((n ≡ 0) × ((j : ℕ) → get_or words j 0 ≡ 0))
none_of [] n = (λ e. (e, λ j. refl), λ h. h.0)
none_of (word ∷ more) n = (
  λ e.
      let (both, none) = (none_of more (bit_or n word)).0 e in
      let (first, second) = (or_none n word).0 both in
      (first, each second none),
  λ (first, none). (none_of more (bit_or n word)).1 ((or_none n word).1 (first, none 0), λ j. none (suc j)),
)
  where
    each : word ≡ 0 → ((j : ℕ) → get_or more j 0 ≡ 0) → (j : ℕ) → get_or (word ∷ more) j 0 ≡ 0
    each e none zero = e
    each e none (suc j) = none j

-- a set has no member where each of its words is 0
pub no_member : (set : List ℕ) → ((j : ℕ) → get_or set j 0 < 2 ^ 64) → ((j : ℕ) → get_or set j 0 ≡ 0) ↔ ((k : ℕ) → ¬ In set k)
no_member set fits = (
  λ none k m. none_of_zero (k % 64) (none (k / 64)) (member set k m),
  λ none j.
      digits_none 64 (get_or set j 0) (fits j)
      (λ k h. not_one (get_or set j 0) k (λ o. none (64 * j + k) ((in_word set j k h).0 o))),
)

-- behind the words in which a set stands, its words are 0
pub no_word : (set : List ℕ) (words j : ℕ) → Inside (64 * words) set → get_or set j 0 < 2 ^ 64 → words ≤ j → get_or set j 0 ≡ 0
no_word set words j inside fits past =
    digits_none 64 (get_or set j 0) fits
    (λ k h. not_one (get_or set j 0) k (λ o. let l = inside _ ((in_word set j k h).0 o) in omega arith))

-- so one that stands in its first word has no member where that is 0
pub no_first : (set : List ℕ) (words : ℕ) → words ≡ 1 → Inside (64 * words) set → ((j : ℕ) → get_or set j 0 < 2 ^ 64)
    → (get_or set 0 0 ≡ 0) ↔ ((k : ℕ) → ¬ In set k)
no_first set words one inside fits =
    Iff.trans (λ e. word e, λ none. none 0) (no_member set fits)
  where
    word : get_or set 0 0 ≡ 0 → (j : ℕ) → get_or set j 0 ≡ 0
    word e zero = e
    word e (suc j) = no_word set words (suc j) inside (fits (suc j)) (omega arith)

-- the ones of the words, one behind the other
pub ones_sum : (words : List ℕ) → sum_by Count.ones words ≡ ones words
unfolding ones
ones_sum [] = refl
ones_sum (word ∷ more) = sum_by-cons Count.ones word more ∙ ap (λ n. Count.ones word + n) (ones_sum more)
