-- Bytes told apart: a byte is none of some others, and a digit is no bracket. Assumes nothing.
use Prim.Native.Nat.{ℕ, ◌≤◌}
use native.Mathlib.Omega.{arith}
use mathlib.Core.Path.{◌≡◌, refl}
use mathlib.Core.Bool.{Bool, true, false, not, ◌&&◌}
use mathlib.Core.List.Memᴰ
use mathlib.Core.List.{List, [], ◌∷◌, Memᴰ}
use lib.Dec.{T, T_not, eqb, eqb→eq, eqb_refl}
use mir.Facts.{and_yes}
use Rattle.reply.specs.Bytes.{Bytes}
use Rattle.text.specs.Promise.{opening, closing}
use Rattle.derivation.proofs.Rules.{NotAt, other}

-- a test that a byte is none of these
abbrev pub apart : ℕ → List ℕ → Bool
apart c [] = true
apart c (d ∷ these) = not (eqb c d) && apart c these

-- a byte that passes the test is not among them
pub absent : {c : ℕ} (these : List ℕ) → T (apart c these) → ¬ Memᴰ c these
absent [] t m = Memᴰ.not-nil m
absent {c} (d ∷ these) t (Memᴰ.head e) = T_not (eqb c d) (and_yes (not (eqb c d)) (apart c these) t).0 (rw e (eqb_refl d))
absent {c} (d ∷ these) t (Memᴰ.tail m) = absent these (and_yes (not (eqb c d)) (apart c these) t).1 m

-- a text that begins with a known byte is not at other bytes
pub not_at : {c : ℕ} {b : Bytes} {these : List ℕ} → T (apart c these) → NotAt these (c ∷ b)
not_at {these = these} t = other (absent these t)

-- the test of equality fails on bytes that differ
pub unequal : {c d : ℕ} → ¬ (c ≡ d) → eqb c d ≡ false
unequal {c} {d} h = go (eqb c d) refl
  where
    go : (x : Bool) → eqb c d ≡ x → x ≡ false
    go true e = absurd (h (eqb→eq c d (rw e tt)))
    go false e = refl

-- and holds of a byte and itself
pub equal : (c : ℕ) → eqb c c ≡ true
equal c = go (eqb c c) (eqb_refl c)
  where
    go : (x : Bool) → T x → x ≡ true
    go true t = refl
    go false t = absurd t

-- a digit is no bracket
module _ {c : ℕ} (least : 48 ≤ c) (most : c ≤ 57) where
  pub digit_opens_nothing : opening c ≡ false
  unfolding opening
  digit_opens_nothing =
      rw (unequal {c = c} {d = 40} (omega arith), unequal {c = c} {d = 91} (omega arith), unequal {c = c} {d = 123} (omega arith))

  pub digit_closes_nothing : closing c ≡ false
  unfolding closing
  digit_closes_nothing =
      rw (unequal {c = c} {d = 41} (omega arith), unequal {c = c} {d = 93} (omega arith), unequal {c = c} {d = 125} (omega arith))
