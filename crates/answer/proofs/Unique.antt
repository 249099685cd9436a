-- A set of nodes has one bitmap, so two outcomes that fit call 3 are equal. Assumes nothing.
use Prim.Native.Nat.{ℕ, zero, suc, ◌+◌, ◌*◌, ◌/◌, ◌%◌, ◌^◌, ◌<◌}
use native.Mathlib.Omega.{arith}
use native.Mathlib.Nat.{div-add-mod', mod-lt, div-one, div-div-eq-div-mul, mul_comm, pow-suc}
use lib.Arith.{lt-one}
use lib.Dec.{lit<}
use mathlib.Core.Path.{◌≡◌, refl, sym, ap, ap₂, ◌∙◌}
use lib.ListN.{get_or}
use lib.Seq.{ext_get_or}
use Rattle.reply.specs.Reply.{Said}
use Rattle.reply.specs.Bytes.{Bytes}
use Rattle.reply.proofs.Unique.{in_turn_wrong, in_turn_one, outcome_one, written_one}
use Rattle.roll.proofs.Unique.{roll_wrong, roll_one}
use Rattle.query.specs.Fault.{answered}
use Rattle.query.proofs.Unique.{query_wrong, query_one}
use Rattle.answer.specs.Bitmap.{bit, Bitmap, SetGiven}
use Rattle.sets.specs.Bits.{ones}
use Rattle.answer.specs.Promise.{Answered}

-- two digits that are 1 in the same cases are equal
same_digit : (a b : ℕ) → a < 2 → b < 2 → (a ≡ 1 → b ≡ 1) → (b ≡ 1 → a ≡ 1) → a ≡ b
same_digit zero zero l k f g = refl
same_digit zero (suc zero) l k f g = g refl
same_digit zero (suc (suc b)) l k f g = absurd (omega arith)
same_digit (suc zero) zero l k f g = sym (f refl)
same_digit (suc zero) (suc zero) l k f g = refl
same_digit (suc zero) (suc (suc b)) l k f g = absurd (omega arith)
same_digit (suc (suc a)) b l k f g = absurd (omega arith)

-- digit k of the half is the digit behind it of the whole
pub of_half : (x k : ℕ) → x / 2 / 2 ^ k ≡ x / 2 ^ suc k
of_half x k = div-div-eq-div-mul x 2 (2 ^ k) ∙ ap (λ (y : ℕ). x / y) (mul_comm 2 (2 ^ k) ∙ sym (pow-suc 2 k))

-- numbers of n digits with the same digits are equal
same_digits : (n a b : ℕ) → a < 2 ^ n → b < 2 ^ n → ((k : ℕ) → k < n → a / 2 ^ k % 2 ≡ b / 2 ^ k % 2) → a ≡ b
same_digits zero a b l k e = omega (arith, lt-one l, lt-one k)
same_digits (suc n) a b l k e =
    let lowest : a % 2 ≡ b % 2 = ap (λ (x : ℕ). x % 2) (sym (div-one a)) ∙ e 0 (omega arith) ∙ ap (λ (x : ℕ). x % 2) (div-one b) in
    let rest : a / 2 ≡ b / 2 = same_digits n (a / 2) (b / 2) (half a l) (half b k) (λ j m. ap (λ (x : ℕ). x % 2) (of_half a j) ∙ e (suc j) (omega arith) ∙ ap (λ (x : ℕ). x % 2) (sym (of_half b j))) in
    omega (arith, div-add-mod' a 2, div-add-mod' b 2)
  where
    half : (x : ℕ) → x < 2 ^ suc n → x / 2 < 2 ^ n
    half x h = omega (arith, pow-suc 2 n)

-- digit k of byte i is the bit of node 8 i + k
bit_at : (map : Bytes) (i k : ℕ) → k < 8 → bit map (8 * i + k) ≡ get_or map i 0 / 2 ^ k % 2
unfolding bit
bit_at map i k l =
    let byte : (8 * i + k) / 8 ≡ i = omega arith in
    let digit : (8 * i + k) % 8 ≡ k = omega arith in
    ap₂ (λ (x y : ℕ). get_or map x 0 / 2 ^ y % 2) byte digit

-- two bitmaps of one set have the same bits
same_bit : {Set : ℕ → Type 0} {a b : Bytes} → Bitmap Set a → Bitmap Set b → (k : ℕ) → k < 4096 → bit a k ≡ bit b k
unfolding bit
same_bit x y k l =
    same_digit _ _ (mod-lt _ (lit< tt)) (mod-lt _ (lit< tt)) (λ e. (y.ones k l).1 ((x.ones k l).0 e)) (λ e. (x.ones k l).1 ((y.ones k l).0 e))

-- a set has one bitmap
pub bitmap_one : {Set : ℕ → Type 0} {a b : Bytes} → Bitmap Set a → Bitmap Set b → a ≡ b
bitmap_one {a = a} {b = b} x y =
    ext_get_or 0 a b (x.size ∙ sym y.size) (λ i l.
    same_digits 8 (get_or a i 0) (get_or b i 0) (x.bytes i) (y.bytes i) (λ k m.
    sym (bit_at a i k m) ∙ same_bit x y (8 * i + k) (omega (arith, x.size)) ∙ bit_at b i k m))

-- what is given of a set is one count and one room
pub set_given_one : {Set : ℕ → Type 0} {before : Bytes} {c d : ℕ} {x y : Bytes} → SetGiven Set before c x → SetGiven Set before d y → (c ≡ d) × (x ≡ y)
set_given_one a b =
    let same = bitmap_one a.is b.is in
    (a.count ∙ ap ones same ∙ sym b.count, written_one a.written b.written same)

-- call 3 comes out in one way
pub answered_one : (roll query before : Bytes) {s u : Said} {x y : Bytes} → Answered roll query before s x → Answered roll query before u y → (s ≡ u) × (x ≡ y)
unfolding Answered
answered_one roll query before =
    outcome_one (in_turn_wrong (roll_wrong roll) (query_wrong answered query)) (in_turn_one (roll_wrong roll) (roll_one roll) (query_one answered query))
    (λ right c d x y. set_given_one)
