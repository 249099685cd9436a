-- Bytes that are stored in a row. Assumes nothing.
use Prim.Native.Nat.{ℕ, suc, ◌+◌, ◌≤◌}
use native.Mathlib.Omega.{arith}
use mathlib.Core.Path.{◌≡◌, refl, ap, ◌∙◌}
use mathlib.Core.List.{[], ◌∷◌, ◌++◌, append_assoc}
use lib.ListN.{length, take, drop, set, length-append}
use lib.Seq.{sets, sets-eq, take_at, drop_at, take-length, length-take-le}
use Rattle.reply.specs.Bytes.{Bytes}

-- bytes stored behind bytes
pub stored_on : (out : Bytes) (i : ℕ) (b more : Bytes) → sets (sets out i b) (i + length b) more ≡ sets out i (b ++ more)
stored_on out i [] more = ap (λ (k : ℕ). sets out k more) (omega arith)
stored_on out i (x ∷ b) more =
    ap (λ (k : ℕ). sets (sets (set out i x) (suc i) b) k more) (omega arith) ∙ stored_on (set out i x) (suc i) b more

-- what is stored stands there, and nothing changes behind it
module _ (out : Bytes) (i : ℕ) (vs : Bytes) (h : i + length vs ≤ length out) where
  front_length : length (take i out ++ vs) ≡ i + length vs
  front_length = let inside : i ≤ length out = omega arith in simp (length-append, length-take-le) refl

  whole : sets out i vs ≡ (take i out ++ vs) ++ drop (i + length vs) out
  whole = sets-eq vs out i h ∙ simp append_assoc

  pub stored_front : take (i + length vs) (sets out i vs) ≡ take i out ++ vs
  stored_front = ap (take (i + length vs)) whole ∙ take_at (take i out ++ vs) _ (i + length vs) front_length

  pub stored_behind : drop (i + length vs) (sets out i vs) ≡ drop (i + length vs) out
  stored_behind = ap (drop (i + length vs)) whole ∙ drop_at (take i out ++ vs) _ (i + length vs) front_length

-- what is copied to the front of some bytes stands there, with the bytes behind it
pub copied_front : (before : Bytes) {n : ℕ} {source part : Bytes} → length source ≡ n → part ≡ source
    → part ++ drop n before ≡ take (length source) source ++ drop (length source) before
copied_front before {n} size same = rw (take-length, size) (ap (λ (part : Bytes). part ++ drop n before) same)
