-- Numbers with a space before each: one behind others, and how long they are. Assumes nothing.
use Prim.Native.Nat.{ℕ, zero, suc, ◌+◌, ◌*◌, ◌^◌, ◌≤◌, ◌<◌}
use native.Mathlib.Numerals.{add-one}
use native.Mathlib.Omega.{arith}
use mathlib.Core.Path.{◌≡◌, refl, sym, ap, subst, ◌∙◌}
use mathlib.Core.Bool.{Bool, true, false, cond}
use mathlib.Core.List.{List, [], ◌∷◌, ◌++◌, append_assoc, append-nil}
use lib.Dec.{eqb}
use lib.ListN.{length, length-append}
use Rattle.reply.specs.Bytes.{Bytes}
use Rattle.answer.specs.Bitmap.{bit}
use Rattle.reply.specs.Reply.{Said, count, refused, number, said}
use Rattle.reply.specs.declared.Refusal.{Refusal}
use Rattle.std.specs.Prelude.{Result, Err}
use Rattle.lines.specs.Line.{decimal, spaced, positions, line_of, LineGiven}
use Rattle.lines.specs.declared.line.Line.{Line}
use Rattle.lines.specs.Put.{Put, Wrote, unended, Begun}
use Rattle.lines.proofs.Putting.{put_written, wrote_none, wrote_then}
use Rattle.lines.proofs.Numbers.{few_digits}

-- one number
pub spaced_one : (n : ℕ) → spaced (n ∷ []) ≡ 32 ∷ decimal n
unfolding spaced
spaced_one n = ap (λ (b : Bytes). 32 ∷ b) (append-nil (decimal n))

-- numbers behind numbers
pub spaced_append : (ms ns : List ℕ) → spaced (ms ++ ns) ≡ spaced ms ++ spaced ns
unfolding spaced
spaced_append [] ns = refl
spaced_append (m ∷ ms) ns =
    ap (λ (b : Bytes). 32 ∷ decimal m ++ b) (spaced_append ms ns)
    ∙ ap (λ (b : Bytes). 32 ∷ b) (sym (append_assoc (decimal m) (spaced ms) (spaced ns)))

-- how long one is
pub spaced_length : (n : ℕ) → length (spaced (n ∷ [])) ≡ 1 + length (decimal n)
spaced_length n = ap length (spaced_one n) ∙ omega arith

-- a number of the machine takes at most 21 bytes, and a position has at most 4 digits
pub spaced_number : (n : ℕ) → n < 2 ^ 64 → length (spaced (n ∷ [])) ≤ 21
spaced_number n l = let few = few_digits 19 n (omega arith) in omega (arith, spaced_length n)

pub position_digits : (k : ℕ) → k < 4096 → length (decimal k) ≤ 4
position_digits k l = few_digits 3 k (omega arith)

-- the position k, if it is in the bitmap
abbrev pub chosen : Bytes → ℕ → List ℕ
chosen map k = cond (eqb (bit map k) 1) (k ∷ []) []

-- the positions below k + 1
pub one_more : (map : Bytes) (k : ℕ) → spaced (positions map (suc k)) ≡ spaced (positions map k) ++ spaced (chosen map k)
unfolding positions
one_more map k = spaced_append (positions map k) (chosen map k)

-- at most five bytes for each
pub spaced_positions : (map : Bytes) (k : ℕ) → k ≤ 4096 → length (spaced (positions map k)) ≤ 5 * k
unfolding spaced positions
spaced_positions map zero l = omega arith
spaced_positions map (suc k) l =
    let rest = spaced_positions map k (omega arith) in
    let one = at (eqb (bit map k) 1) in
    omega (arith, ap length (one_more map k) ∙ length-append (spaced (positions map k)) (spaced (chosen map k)))
  where
    at : (b : Bool) → length (spaced (cond b (k ∷ []) [])) ≤ 5
    at true = omega (arith, spaced_length k, position_digits k (omega arith))
    at false = omega arith

-- ---- a line

-- a letter and numbers, with more numbers behind them
pub wrote_numbers : {letter : ℕ} (ms ns : List ℕ) {a b c : Line}
    → Wrote a (letter ∷ spaced ms) b → Wrote b (spaced ns) c → Wrote a (letter ∷ spaced (ms ++ ns)) c
wrote_numbers ms ns x y = rw (spaced_append ms ns) (wrote_then x y)

-- of a reply that refuses, whose bitmap is not written
pub refused_begun : {r : Result ℕ Refusal} {x : Refusal} {n : ℕ} {map : Bytes} {a b : Line} → r ≡ Err x → n ≡ number x.reason
    → Begun (refused n x.place) [] a b → Begun (said r) map a b
unfolding unended
refused_begun {x = x} {map = map} {a} {b} e f begun =
    rw e (subst (λ (n : ℕ). Begun (refused n x.place) map a b) f (record { wrote = begun.wrote; room = begun.room }))

-- the line feed ends the line
line_ended : (s : Said) (map : Bytes) → unended s map ++ 10 ∷ [] ≡ line_of s map
unfolding unended line_of
line_ended (count n) map = refl
line_ended (refused n p) map = refl

pub ended : {s : Said} {map after : Bytes} {a b c : Line} → a.at ≡ 0 → Begun s map a b → Wrote b (10 ∷ []) c → after ≡ c.out.now
    → LineGiven s map a.out.now c.at after
ended {s} {map} {a = a} {c = c} front x y e =
    let line : Wrote a (line_of s map) c = rw (line_ended s map) at (wrote_then x.wrote y) in
    let put : Put a.out.now 0 (line_of s map) c.at c.out.now = rw front at line.put in
    rw e (record { count = put.end ∙ omega arith; written = put_written line.fits put })

-- ---- the loop over the positions

-- where the positions below k end
pub listed_end : (map : Bytes) (k : ℕ) {a b : Line} → k ≤ 4096 → Wrote a (spaced (positions map k)) b → b.at ≤ a.at + 5 * k
listed_end map k l x = omega (arith, x.put.end, spaced_positions map k l)

-- a turn: position k
pub list_one : (map : Bytes) (k : ℕ) {a b c : Line} → Wrote a (spaced (positions map k)) b → Wrote b (spaced (chosen map k)) c
    → Wrote a (spaced (positions map (k + 1))) c
list_one map k x y = rw (add-one, one_more map k) (wrote_then x y)

-- it is written where it is in the bitmap, and nothing where it is not
pub wrote_chosen : (map : Bytes) (k : ℕ) {a b : Line} {is : Bool} → is ≡ eqb (bit map k) 1 → is ≡ true
    → Wrote a (spaced (k ∷ [])) b → Wrote a (spaced (chosen map k)) b
wrote_chosen map k e t x = rw (sym e ∙ t) x

pub wrote_unchosen : (map : Bytes) (k : ℕ) (a : Line) {is : Bool} → is ≡ eqb (bit map k) 1 → is ≡ false
    → a.at ≤ length a.out.now → Wrote a (spaced (chosen map k)) a
unfolding spaced
wrote_unchosen map k a e t l = rw (sym e ∙ t) (wrote_none a l)
