-- The first place of a byte: before it there is none, and it stands there. Assumes nothing.
use Rattle.std.proofs.Common.{ℕ, zero, suc, ◌<◌, ◌≡◌, sym, ap, ◌∙◌, subst, List, [], ◌∷◌, length, take, arith}
use Rattle.std.proofs.Math.Seq.{take-suc, take_all}
use Rattle.memchr.specs.Find.{Passes, Nowhere, is_byte}
use mathlib.Core.Logic.{⊎_elim}
use mathlib.Core.List.Memᴰ
use mathlib.Core.List.{◌++◌, Memᴰ}
use borrow.Author.Tests.{eqb-true, eq-eqb}

module _ (b : ℕ) where
  -- there is none before it
  pub none_before : (xs : List ℕ) (k : ℕ) → Nowhere (Passes (is_byte b) xs) 0 k → ¬ Memᴰ b (take k xs)
  none_before [] zero none = Memᴰ.not-nil
  none_before [] (suc k) none = Memᴰ.not-nil
  none_before (x ∷ xs) zero none = Memᴰ.not-nil
  none_before (x ∷ xs) (suc k) none = λ m.
      ⊎_elim
      (λ same. none 0 (omega arith) (omega arith) (eq-eqb x b (sym same)))
      (none_before xs k (λ j low less. none (suc j) (omega arith) (omega arith)))
      (Memᴰ.cases_cons m)

  -- there is none at all where none is found
  pub none_at_all : (xs : List ℕ) → Nowhere (Passes (is_byte b) xs) 0 (length xs) → ¬ Memᴰ b xs
  none_at_all xs none = subst (λ (l : List ℕ). ¬ Memᴰ b l) (take_all (length xs) xs (omega arith)) (none_before xs (length xs) none)

  -- the list up to it
  pub up_to : (xs : List ℕ) (k : ℕ) → k < length xs → Passes (is_byte b) xs k → take (suc k) xs ≡ take k xs ++ b ∷ []
  up_to xs k l here = take-suc xs k 0 l ∙ ap (λ (x : ℕ). take k xs ++ x ∷ []) (eqb-true _ b here)
