-- The ones in the words of a set are as many as its members, and a set that grows has more of them. Assumes nothing.
use Prim.Native.Nat.{ℕ, zero, suc, ◌+◌, ◌*◌, ◌/◌, ◌^◌, ◌≤◌, ◌<◌}
use native.Mathlib.Nat.{zero-add, suc-add, add_comm, mul-zero, mul-suc, le_trans, le_of_eq, lt_of_not-le}
use native.Mathlib.Nat.{add-div_left, add-mod_left, div-eq_of_lt, mod-eq_of_lt}
use native.Mathlib.Numerals.{add-one}
use native.Mathlib.Omega.{arith}
use mathlib.Core.Path.{◌≡◌, refl, sym, ap, ap₂, subst, ◌∙◌}
use mathlib.Core.Logic.{◌↔◌}
use mathlib.Core.Bool.{Bool, true, false}
use mathlib.Core.List.{List, [], ◌∷◌}
use lib.ListN.{length, get_or}
use lib.Dec.{T, eqb, lit<}
use lib.Count as Count
use lib.Count.{ones_step, ones-le}
use Rattle.tree.proofs.Tests.{Decides, equal_test, same_test, decided}
use Rattle.query.proofs.Sets.{has, tabulate, length_tabulate, has_tabulate, has_inside, size, size_bound, part_size, part_whole}
use Rattle.sets.specs.Bits.{digit, bit_of, ones}
use Rattle.sets.specs.Sets.{In}
use Rattle.sets.proofs.Digits.{digit_below, digit_zero, digit_suc}

-- ---- sizes of tables

-- tables of tests with the same results are the same
same_table : (n : ℕ) {f g : ℕ → Bool} → ((k : ℕ) → k < n → f k ≡ g k) → tabulate n f ≡ tabulate n g
unfolding tabulate
same_table zero same = refl
same_table (suc n) same =
    ap₂ (λ (b : Bool) (s : List Bool). b ∷ s) (same zero (omega arith)) (same_table n (λ k l. same (suc k) (omega arith)))

-- a passed test counts one
abbrev worth : Bool → ℕ
worth true = 1
worth false = 0

size_cons : (b : Bool) (s : List Bool) → size (b ∷ s) ≡ worth b + size s
unfolding size
size_cons true s = omega arith
size_cons false s = omega arith

size_suc : (n : ℕ) (f : ℕ → Bool) → size (tabulate (suc n) f) ≡ worth (f zero) + size (tabulate n (λ k. f (suc k)))
unfolding tabulate
size_suc n f = size_cons (f zero) (tabulate n (λ k. f (suc k)))

-- a table in two parts
size_parts : (m n : ℕ) (f : ℕ → Bool) → size (tabulate (m + n) f) ≡ size (tabulate m f) + size (tabulate n (λ k. f (m + k)))
unfolding tabulate size
size_parts zero n f =
    ap (λ (x : ℕ). size (tabulate x f)) (zero-add n) ∙ ap size (same_table n (λ k l. ap f (sym (zero-add k))))
    ∙ sym (zero-add (size (tabulate n (λ k. f (0 + k)))))
size_parts (suc m) n f =
    let whole = ap (λ (x : ℕ). size (tabulate x f)) (suc-add m n) ∙ size_suc (m + n) f in
    let first = size_suc m f in
    let parts = size_parts m n (λ k. f (suc k)) in
    let rest = ap size (same_table n (λ k l. ap f (sym (suc-add m k)))) in
    omega arith

-- ---- the ones of words

-- the test of a digit counts the digit
worth_digit : (d : ℕ) → d < 2 → worth (eqb d 1) ≡ d
worth_digit zero l = refl
worth_digit (suc zero) l = refl
worth_digit (suc (suc d)) l = absurd (omega arith)

ones_word : (w n : ℕ) → n < 2 ^ w → Count.ones n ≡ size (tabulate w (λ k. eqb (digit n k) 1))
unfolding tabulate size
ones_word zero n h = omega (arith, ones-le 0 n h)
ones_word (suc w) n h =
    let table = size_suc w (λ k. eqb (digit n k) 1) in
    let rest = ones_word w (n / 2) (omega arith) in
    let same = ap size (same_table w (λ k l. ap (λ (x : ℕ). eqb x 1) (digit_suc n k))) in
    let first = worth_digit (digit n zero) (digit_below n zero) in
    omega (arith, ones_step n, digit_zero n)

module _ (w : ℕ) (p : 0 < w) (word : ℕ) (more : List ℕ) (k : ℕ) where
  first_bit : k < w → bit_of w (word ∷ more) k ≡ digit word k
  unfolding bit_of
  first_bit l = ap₂ (λ (q r : ℕ). digit (get_or (word ∷ more) q 0) r) (div-eq_of_lt l) (mod-eq_of_lt l)

  later_bit : bit_of w (word ∷ more) (w + k) ≡ bit_of w more k
  unfolding bit_of
  later_bit = ap₂ (λ (q r : ℕ). digit (get_or (word ∷ more) q 0) r) (add-div_left k p ∙ add-one (k / w)) (add-mod_left w k)

-- the ones of words are as many as their bits that are 1
pub ones_bits : (w : ℕ) → 0 < w → (words : List ℕ) → ((j : ℕ) → get_or words j 0 < 2 ^ w)
    → ones words ≡ size (tabulate (w * length words) (λ k. eqb (bit_of w words k) 1))
unfolding ones tabulate size
ones_bits w p [] fits = ap (λ (n : ℕ). size (tabulate n (λ k. eqb (bit_of w [] k) 1))) (sym (mul-zero w))
ones_bits w p (word ∷ more) fits =
    let f : ℕ → Bool = λ k. eqb (bit_of w (word ∷ more) k) 1 in
    let n : ℕ = w * length more in
    let all = ap (λ (x : ℕ). size (tabulate x f)) (mul-suc w (length more) ∙ add_comm n w) ∙ size_parts w n f in
    let one = ap size (same_table w (λ k l. ap (λ (x : ℕ). eqb x 1) (first_bit w p word more k l))) in
    let rest = ap size (same_table n (λ k l. ap (λ (x : ℕ). eqb x 1) (later_bit w p word more k))) in
    omega (arith, ones_word w word (fits zero), ones_bits w p more (λ j. fits (suc j)))

-- words of two widths with the same bits have as many ones
pub same_ones : (v w : ℕ) → 0 < v → 0 < w → (a b : List ℕ) → ((j : ℕ) → get_or a j 0 < 2 ^ v) → ((j : ℕ) → get_or b j 0 < 2 ^ w)
    → v * length a ≡ w * length b → ((k : ℕ) → k < w * length b → bit_of v a k ≡ bit_of w b k) → ones a ≡ ones b
same_ones v w p q a b fits fits' long same =
    ones_bits v p a fits ∙ ap (λ (n : ℕ). size (tabulate n (λ k. eqb (bit_of v a k) 1))) long
    ∙ ap size (same_table (w * length b) (λ k l. ap (λ (x : ℕ). eqb x 1) (same k l))) ∙ sym (ones_bits w q b fits')

-- ---- the size of a set

-- membership has a test
pub in_test : (set : List ℕ) (k : ℕ) → Decides (eqb (bit_of 64 set k) 1) (In set k)
in_test set k = same_test (equal_test (bit_of 64 set k) 1) (λ e. record { one = e }, λ m. m.one)

pub dec_in : (set : List ℕ) (k : ℕ) → Dec (In set k)
dec_in set k = decided (in_test set k)

-- the set as a table of 4096 tests, and how many of them pass
table : List ℕ → List Bool
table set = tabulate 4096 (λ k. eqb (bit_of 64 set k) 1)

unfoldable pub size_of : List ℕ → ℕ
unfolding table size
size_of set = size (table set)

has_table : (set : List ℕ) (k : ℕ) → k < 4096 → T (has (table set) k) ↔ In set k
unfolding table
has_table set k l = has_tabulate 4096 (λ j. eqb (bit_of 64 set j) 1) k (in_test set k) (λ m. l)

length_table : (set : List ℕ) → length (table set) ≡ 4096
unfolding table
length_table set = length_tabulate 4096 (λ k. eqb (bit_of 64 set k) 1)

-- the table of a part of a set is a part of the set's
part_table : {a r : List ℕ} → ((k : ℕ) → In a k → In r k) → (k : ℕ) → T (has (table a) k) → T (has (table r) k)
part_table {a} {r} part k x =
    let low : k < 4096 = subst (λ (n : ℕ). k < n) (length_table a) (has_inside (table a) k x) in
    (has_table r k low).1 (part k ((has_table a k low).0 x))

pub size_most : (set : List ℕ) → size_of set ≤ 4096
unfolding size_of
size_most set = le_trans (size_bound (table set)) (le_of_eq (length_table set))

-- what `count` counts
pub ones_size : (set : List ℕ) → length set ≡ 64 → ((j : ℕ) → get_or set j 0 < 2 ^ 64) → ones set ≡ size_of set
unfolding size_of
ones_size set e fits = ones_bits 64 (lit< tt) set fits ∙ ap (λ (n : ℕ). size (tabulate n (λ k. eqb (bit_of 64 set k) 1))) (omega arith)

-- a set with all the members of another is no smaller
pub no_smaller : {a r : List ℕ} → ((k : ℕ) → In a k → In r k) → size_of a ≤ size_of r
unfolding size_of
no_smaller {a} {r} part = part_size (table a) (table r) (part_table part)

-- a set with all the members of another and one more has the greater size
pub grown : {a r : List ℕ} → ((k : ℕ) → In a k → In r k) → ¬ ((k : ℕ) → k < 4096 → In r k → In a k) → size_of a < size_of r
unfolding size_of
grown {a} {r} part new =
    lt_of_not-le (λ l. new (λ k low m. (has_table a k low).0 (subst (λ (s : List Bool). T (has s k)) (sym (same l)) ((has_table r k low).1 m))))
  where
    same : size (table r) ≤ size (table a) → table a ≡ table r
    same = part_whole (table a) (table r) (length_table a ∙ sym (length_table r)) (part_table part)

-- the bytes of a set have its ones
pub bytes_ones : (set bytes : List ℕ) → length set ≡ 64 → length bytes ≡ 512
    → ((j : ℕ) → get_or set j 0 < 2 ^ 64) → ((j : ℕ) → get_or bytes j 0 < 2 ^ 8)
    → ((k : ℕ) → k < 4096 → bit_of 8 bytes k ≡ bit_of 64 set k) → ones bytes ≡ ones set
bytes_ones set bytes e e' fits fits' same =
    same_ones 8 64 (lit< tt) (lit< tt) bytes set fits' fits (omega arith) (λ k l. same k (omega arith))
