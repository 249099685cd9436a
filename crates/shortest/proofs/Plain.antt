-- Texts in which no star stands right behind a star, their parts, and what is made of them. Assumes nothing.
use Prim.Native.Nat.{ℕ, suc, ◌+◌, ◌-◌, ◌≤◌, ◌<◌}
use native.Mathlib.Decide.{dec_lt, dec_le}
use native.Mathlib.Omega.{arith}
use mathlib.Core.Path.{◌≡◌, sym, ◌∙◌}
use mathlib.Core.Bool.{Bool, true, false, cond}
use mathlib.Core.List.{[], ◌∷◌, ◌++◌}
use lib.Dec.{leb}
use lib.ListN.{length, get_or, get_or-append, length-append}
use lib.Seq.{get_or-append-add, get_or_at}
use Rattle.reply.specs.Bytes.{Bytes}
use Rattle.text.specs.Promise.{StarBehindStar, behind}
use Rattle.derivation.proofs.Mistakes.{star_in}
use Rattle.shortest.proofs.Shown.{between, held}

-- no star stands right behind a star
abbrev pub Plain : Bytes → Type 0
Plain s = (k : ℕ) → ¬ StarBehindStar s k

-- the last byte is a star
abbrev pub EndsInStar : Bytes → Type 0
EndsInStar s = get_or s (length s - 1) 0 ≡ 42

-- A text and another behind it.
module _ (s u : Bytes) where
  -- the front of a plain text is plain
  pub plain_front : Plain (s ++ u) → Plain s
  plain_front plain k (behind {i = i} e f) =
      let first = get_or-append s u 0 i (star_in s i e) in
      let second = get_or-append s u 0 (suc i) (star_in s (suc i) f) in
      plain (suc i) (behind (first ∙ e) (second ∙ f))

  -- so is what is behind it
  pub plain_behind : Plain (s ++ u) → Plain u
  plain_behind plain k (behind {i = i} e f) =
      let next : length s + suc i ≡ suc (length s + i) = omega arith in
      let second : get_or (s ++ u) (suc (length s + i)) 0 ≡ get_or u (suc i) 0 = rw next at (get_or-append-add s u (suc i) 0) in
      plain (suc (length s + i)) (behind (get_or-append-add s u i 0 ∙ e) (second ∙ f))

  -- two plain texts are plain together, unless stars meet
  pub plain_both : Plain s → Plain u → (EndsInStar s → get_or u 0 0 ≡ 42 → ⊥) → Plain (s ++ u)
  plain_both first second meet k (behind {i = i} e f) = go (dec_lt (suc i) (length s)) (dec_le (length s) i)
    where
      go : Dec (suc i < length s) → Dec (length s ≤ i) → ⊥
      go (yes l) d =
          let here = get_or-append s u 0 i (omega arith) in
          let next = get_or-append s u 0 (suc i) l in
          first (suc i) (behind (sym here ∙ e) (sym next ∙ f))
      go (no l) (yes h) =
          let j : ℕ = i - length s in
          let place : length s + j ≡ i = omega arith in
          let after : length s + suc j ≡ suc i = omega arith in
          let here : get_or (s ++ u) i 0 ≡ get_or u j 0 = rw place at (get_or-append-add s u j 0) in
          let next : get_or (s ++ u) (suc i) 0 ≡ get_or u (suc j) 0 = rw after at (get_or-append-add s u (suc j) 0) in
          second (suc j) (behind (sym here ∙ e) (sym next ∙ f))
      go (no l) (no h) =
          let last : i ≡ length s - 1 = omega arith in
          let end : length s + 0 ≡ suc i = omega arith in
          let here = get_or-append s u 0 i (omega arith) in
          let next : get_or (s ++ u) (suc i) 0 ≡ get_or u 0 0 = rw end at (get_or-append-add s u 0 0) in
          meet (rw last at (sym here ∙ e)) (sym next ∙ f)

-- no byte is plain, and one
pub plain_nothing : Plain []
plain_nothing k (behind {i = i} e f) = let l = star_in [] i e in omega arith

pub plain_byte : (c : ℕ) → Plain (c ∷ [])
plain_byte c k (behind {i = i} e f) = let l = star_in (c ∷ []) (suc i) f in omega arith

-- a star is behind no star
pub starred_open : (s : Bytes) → Plain (s ++ 42 ∷ []) → ¬ EndsInStar s
starred_open s plain e =
    let l = star_in s (length s - 1) e in
    let end : length s ≡ suc (length s - 1) = omega arith in
    let first = get_or-append s (42 ∷ []) 0 (length s - 1) l in
    plain (suc (length s - 1)) (behind (first ∙ e) (get_or_at s 42 [] 0 (suc (length s - 1)) end))

-- a byte at the end
pub ends_with : (s : Bytes) (c : ℕ) → get_or (s ++ c ∷ []) (length (s ++ c ∷ []) - 1) 0 ≡ c
ends_with s c = get_or_at s c [] 0 (length (s ++ c ∷ []) - 1) (omega (arith, length-append s (c ∷ [])))

-- Texts on both sides of a byte.
module _ (s : Bytes) (c : ℕ) (u : Bytes) where
  pub plain_parts : Plain (s ++ c ∷ u) → Plain s × Plain u
  plain_parts plain = (plain_front s (c ∷ u) plain, plain_behind (c ∷ []) u (plain_behind s (c ∷ u) plain))

  pub plain_joined : ¬ (c ≡ 42) → Plain s → Plain u → Plain (s ++ c ∷ u)
  plain_joined other first second =
      plain_both s (c ∷ u) first (plain_both (c ∷ []) u (plain_byte c) second (λ e f. other e)) (λ e f. other f)

-- what stands between two bytes
pub plain_inside : (o : ℕ) (s : Bytes) (c : ℕ) → Plain (o ∷ s ++ c ∷ []) → Plain s
plain_inside o s c plain = plain_front s (c ∷ []) (plain_behind (o ∷ []) (s ++ c ∷ []) plain)

-- Brackets around a text, or around what needs them.
module _ (o c : ℕ) (o_other : ¬ (o ≡ 42)) (c_other : ¬ (c ≡ 42)) where
  pub plain_between : {s : Bytes} → Plain s → Plain (between o c s)
  unfolding between
  plain_between {s} plain =
      plain_joined [] o (s ++ c ∷ []) o_other plain_nothing (plain_joined s c [] c_other plain plain_nothing)

  pub plain_held : (least rank : ℕ) {s : Bytes} → Plain s → Plain (held o c least rank s)
  unfolding held
  plain_held least rank {s} plain = go (leb least rank)
    where
      go : (x : Bool) → Plain (cond x s (between o c s))
      go true = plain
      go false = plain_between plain
