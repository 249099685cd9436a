-- Places in a text: the byte at a place, 0 behind the end, says how the unread text begins. Assumes nothing.
use Prim.Native.Nat.{ℕ, ◌+◌, ◌≤◌, ◌<◌}
use native.Mathlib.Omega.{arith}
use native.Mathlib.Decide.{dec_lt}
use native.Mathlib.Numerals.{add-one}
use mathlib.Core.Path.{◌≡◌, sym, ap, ◌∙◌, subst}
use mathlib.Core.List.Memᴰ
use mathlib.Core.List.{List, [], ◌∷◌, Memᴰ}
use lib.ListN.{length, get_or, drop, drop_of_length-le, get_or-eq_default}
use lib.Seq.{drop-cons}
use Rattle.reply.specs.Bytes.{Bytes}
use Rattle.derivation.proofs.Rules.{NotAt, ended, other}

-- the unread text begins with the byte at the place
pub begins : (text : Bytes) (at : ℕ) → at < length text → drop at text ≡ get_or text at 0 ∷ drop (at + 1) text
begins text at l = rw (add-one, drop-cons text at 0)

-- behind the end the byte is 0
pub behind_end : (text : Bytes) (at : ℕ) → length text ≤ at → get_or text at 0 ≡ 0
behind_end text at l = get_or-eq_default text 0 l

-- a byte that is not 0 is in the text
pub inside : (text : Bytes) (at : ℕ) → 0 < get_or text at 0 → at < length text
inside text at l = go (dec_lt at (length text))
  where
    go : Dec (at < length text) → at < length text
    go (yes w) = w
    go (no w) = let e : get_or text at 0 ≡ 0 = behind_end text at (omega arith) in absurd (omega arith)

-- the byte c, which is not 0, is the next
pub here : (text : Bytes) (at c : ℕ) → get_or text at 0 ≡ c → 0 < c → drop at text ≡ c ∷ drop (at + 1) text
here text at c e l =
    let w : at < length text = inside text at (rw e l) in
    begins text at w ∙ ap (λ (x : ℕ). x ∷ drop (at + 1) text) e

-- what holds of an ended text, and of each text that begins with the byte at the place, holds of the unread text
pub unread : (P : Bytes → Type 0) (text : Bytes) (at : ℕ) → P [] → ((b : Bytes) → P (get_or text at 0 ∷ b)) → P (drop at text)
unread P text at none some = go (dec_lt at (length text))
  where
    go : Dec (at < length text) → P (drop at text)
    go (yes w) = subst P (sym (begins text at w)) (some (drop (at + 1) text))
    go (no w) = subst P (sym (drop_of_length-le text {i = at} (omega arith))) none

-- where the byte is none of these, the unread text is not at them
pub not_at : (these : List ℕ) (text : Bytes) (at : ℕ) → ¬ Memᴰ (get_or text at 0) these → NotAt these (drop at text)
not_at these text at h = unread (NotAt these) text at ended (λ b. other h)

-- nothing is among none
pub none_of : {c : ℕ} → ¬ Memᴰ c []
none_of m = Memᴰ.not-nil m

-- what is neither the first nor among the others is not among them
pub nor : {c x : ℕ} {xs : List ℕ} → (c ≡ x → ⊥) → ¬ Memᴰ c xs → ¬ Memᴰ c (x ∷ xs)
nor first others (Memᴰ.head e) = first e
nor first others (Memᴰ.tail m) = others m
