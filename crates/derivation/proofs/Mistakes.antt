-- Which of a text's mistakes is the first: by where its reading comes to, and by the first star right behind a star. Assumes nothing.
use Prim.Native.Nat.{ℕ, suc, ◌≤◌, ◌<◌}
use native.Mathlib.Decide.{dec_lt}
use native.Mathlib.Omega.{arith}
use mathlib.Core.Path.{◌≡◌}
use mathlib.Core.Logic.{◌⊎◌, ⊎_elim, inl, inr}
use lib.ListN.{length, get_or, get_or-eq_default}
use Rattle.reply.specs.Bytes.{Bytes}
use Rattle.query.specs.Syntax.{Path}
use Rattle.text.specs.Grammar.{PathText}
use Rattle.text.specs.Promise.{Breaks, OneTooMany, StarBehindStar, behind, Mistake, breaks, too_deep, two_stars, FirstMistake, Faultless}
use Rattle.derivation.proofs.Judged.{BreaksFirst, DeepFirst}

-- Below a place the text does not break, and no bracket is one too many.
pub record Clear (text : Bytes) (i : ℕ) : Type 0 where
  pub unbroken : (k : ℕ) → k < i → ¬ Breaks text k
  pub shallow : (k : ℕ) → k < i → ¬ OneTooMany text k

-- no star below a place stands right behind a star
abbrev pub PlainBelow : Bytes → ℕ → Type 0
PlainBelow text i = (k : ℕ) → k < i → ¬ StarBehindStar text k

-- a star is in the text
pub star_in : (text : Bytes) (i : ℕ) → get_or text i 0 ≡ 42 → i < length text
star_in text i e = go (dec_lt i (length text))
  where
    go : Dec (i < length text) → i < length text
    go (yes l) = l
    go (no l) = let none = get_or-eq_default text 0 {n = i} (omega arith) in absurd (omega (arith, e, none))

module _ {text : Bytes} where
  -- and so is one right behind a star
  pub star_within : {k : ℕ} → StarBehindStar text k → k < length text
  star_within (behind {i = i} e f) = star_in text (suc i) f

  -- a text breaks no earlier than elsewhere
  not_earlier : {i j : ℕ} → Breaks text i → Breaks text j → ¬ (i < j)
  not_earlier {i} {j} a b l =
      ⊎_elim (λ h. ⊎_elim (λ k. omega arith) (λ k. omega (arith, k.0)) b.stops) (λ h. h.1 (b.before i l)) a.stops

  -- nothing is wrong below, and nothing of a lower number at the place
  first_at : {n i : ℕ} → Mistake text n i → Clear text i → PlainBelow text i → ((m : ℕ) → Mistake text m i → n ≤ m) → FirstMistake text n i
  first_at {n} {i} is clear plain least = record { is = is; first = λ m k x. at m k x (dec_lt i k) (dec_lt k i) }
    where
      none : (m k : ℕ) → Mistake text m k → ¬ (k < i)
      none m k (breaks b) l = clear.unbroken k l b
      none m k (too_deep o) l = clear.shallow k l o
      none m k (two_stars s) l = plain k l s

      at : (m k : ℕ) → Mistake text m k → Dec (i < k) → Dec (k < i) → (i < k) ⊎ ((i ≡ k) × (n ≤ m))
      at m k x (yes l) h = inl l
      at m k x (no l) (yes h) = absurd (none m k x h)
      at m k x (no l) (no h) = let same : i ≡ k = omega arith in inr (same, least m (rw (← same) at x))

  -- the text breaks there
  module _ {i : ℕ} (b : BreaksFirst text i) where
    pub breaks_clear : Clear text i
    breaks_clear = record { unbroken = λ k l c. not_earlier c b.breaks l; shallow = b.shallow }

    pub breaks_first : PlainBelow text i → FirstMistake text 14 i
    breaks_first plain = first_at (breaks b.breaks) breaks_clear plain least
      where
        least : (m : ℕ) → Mistake text m i → 14 ≤ m
        least m (breaks c) = omega arith
        least m (too_deep o) = omega arith
        least m (two_stars s) = omega arith

  -- a bracket there is one too many
  module _ {i : ℕ} (d : DeepFirst text i) where
    pub deep_clear : Clear text i
    deep_clear = record { unbroken = λ k l. d.unbroken k (omega arith); shallow = d.shallow }

    pub deep_first : PlainBelow text i → FirstMistake text 15 i
    deep_first plain = first_at (too_deep d.too_many) deep_clear plain least
      where
        least : (m : ℕ) → Mistake text m i → 15 ≤ m
        least m (breaks c) = absurd (d.unbroken i (omega arith) c)
        least m (too_deep o) = omega arith
        least m (two_stars s) = omega arith

  -- a star there stands right behind a star, and reading comes further
  pub star_first : {i j : ℕ} → Clear text i → j < i → StarBehindStar text j → PlainBelow text j → FirstMistake text 19 j
  star_first {i} {j} clear l s plain = first_at (two_stars s) below plain least
    where
      below : Clear text j
      below = record { unbroken = λ k h. clear.unbroken k (omega arith); shallow = λ k h. clear.shallow k (omega arith) }

      least : (m : ℕ) → Mistake text m j → 19 ≤ m
      least m (breaks c) = absurd (clear.unbroken j l c)
      least m (too_deep o) = absurd (clear.shallow j l o)
      least m (two_stars x) = omega arith

  -- a text of a path
  module _ {p : Path} (x : PathText text p) (shallow : (k : ℕ) → ¬ OneTooMany text k) where
    pub whole_clear : (i : ℕ) → Clear text i
    whole_clear i = record { unbroken = λ k l b. b.no_path p x; shallow = λ k l. shallow k }

    pub whole_faultless : PlainBelow text (length text) → Faultless text
    unfolding Faultless
    whole_faultless plain n i (breaks b) = b.no_path p x
    whole_faultless plain n i (too_deep o) = shallow i o
    whole_faultless plain n i (two_stars s) = plain i (star_within s) s
