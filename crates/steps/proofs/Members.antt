-- Loops over the members of a set: over the digits of a word, of which each turn takes the lowest out, and over the words.
-- Assumes nothing.
use Prim.Native.Nat.{ℕ, ◌+◌, ◌-◌, ◌*◌, ◌<◌}
use native.Mathlib.Decide.{dec_lt, ℕ_discrete}
use native.Mathlib.Omega.{arith}
use mathlib.Core.Path.{◌≡◌}
use mathlib.Core.Logic.Iff
use mathlib.Core.Logic.{◌↔◌, ◌⊎◌, inl, inr, ⊎_elim}
use mathlib.Core.List.{List}
use lib.ListN.{length, get_or}
use Rattle.sets.specs.Sets.{In, Holds, Image}
use Rattle.sets.specs.Ones.{Taken}
use Rattle.sets.proofs.Digits.{none_of_zero}
use Rattle.sets.proofs.Words.{in_word, in_below}
use Rattle.steps.specs.Added.{Added, LedTo}
use Rattle.steps.proofs.Adding.{holds_same, holds_more}

-- ---- the digits of a word

-- what is done, with what the rest of the word leads to, is what was done at first, with what the word leads to
pub record SoFar (R : ℕ → ℕ → Type 0) (first : ℕ → Type 0) (word : ℕ) (done : ℕ → Type 0) (rest : ℕ) : Type 0 where
  pub same : (j : ℕ) → (done j ⊎ LedTo R rest j) ↔ (first j ⊎ LedTo R word j)

-- a digit taken out of the rest, and what it leads to done
taken_over : (R : ℕ → ℕ → Type 0) {done more : ℕ → Type 0} {n k rest : ℕ} → Taken n k rest → ((j : ℕ) → more j ↔ (done j ⊎ R k j))
    → (j : ℕ) → (more j ⊎ LedTo R rest j) ↔ (done j ⊎ LedTo R n j)
taken_over R {k = k} taken adds j = (
  ⊎_elim (λ m. ⊎_elim inl (λ r. inr (k, taken.low, taken.one, r)) ((adds j).0 m)) (λ (i, l, d, r). inr (i, l, ((taken.others i).0 d).0, r)),
  ⊎_elim (λ m. inl ((adds j).1 (inl m)))
      (λ (i, l, d, r).
      elim (ℕ_discrete i k) [
        | yes e ↦ inl ((adds j).1 (inr (rw e at r)))
        | no n ↦ inr (i, l, (taken.others i).1 (d, n), r)
      ]),
)

module _ {R : ℕ → ℕ → Type 0} {first : ℕ → Type 0} {word : ℕ} where
  -- at first nothing is taken out
  pub so_far : SoFar R first word first word
  so_far = record { same = λ j. Iff.rfl }

  -- a turn does what its digit leads to
  pub one_more : {done more : ℕ → Type 0} {rest k after : ℕ} → SoFar R first word done rest → Taken rest k after
      → ((j : ℕ) → more j ↔ (done j ⊎ R k j)) → SoFar R first word more after
  one_more before taken adds = record { same = λ j. Iff.trans (taken_over R taken adds j) (before.same j) }

  -- with no digit left, all is done
  pub all_done : {done : ℕ → Type 0} {rest : ℕ} → SoFar R first word done rest → rest ≡ 0 → (j : ℕ) → done j ↔ (first j ⊎ LedTo R word j)
  all_done so zero j =
      Iff.trans (inl, ⊎_elim (λ d. d) (λ (k, l, d, r). absurd (none_of_zero k zero d))) (so.same j)

-- ---- the words of a set

-- what R leads to from the members below n
abbrev pub FromBelow : (ℕ → ℕ → Type 0) → List ℕ → ℕ → ℕ → Type 0
FromBelow R set n j = (i : ℕ) × In set i × (i < n) × R i j

module _ {R : ℕ → ℕ → Type 0} {set out : List ℕ} (w : ℕ) where
  -- what word w leads to comes to what the words before it lead to
  pub word_more : {more : List ℕ} → Holds (FromBelow R set (64 * w)) out → Added (LedTo (λ k. R (64 * w + k)) (get_or set w 0)) out more
      → Holds (FromBelow R set (64 * (w + 1))) more
  word_more =
      holds_more (λ j. (
        ⊎_elim (λ (i, m, l, r). (i, m, omega arith, r)) (λ (k, l, d, r). (64 * w + k, (in_word set w k l).0 d, omega arith, r)),
        λ (i, m, l, r).
            elim (dec_lt i (64 * w)) [
              | yes h ↦ inl (i, m, h, r)
              | no h ↦
                  let k = i - 64 * w in
                  let e : i ≡ 64 * w + k = omega arith in
                  let low : k < 64 = omega arith in
                  inr (k, low, (in_word set w k low).1 (rw e at m), rw e at r)
            ],
      ))

  -- after the last word, it is what the set leads to
  pub words_all : length set ≡ 64 → 64 * w ≡ 4096 → Holds (FromBelow R set (64 * w)) out → Image R set out
  words_all size last =
      holds_same (λ j. (λ (i, m, l, r). (i, m, r), λ (i, m, r). let l = in_below set size i m in (i, m, omega arith, r)))
