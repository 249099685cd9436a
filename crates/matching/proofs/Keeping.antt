-- Sets that are kept: the first of them, for a star, and the others, which are lent on for what is in it. Assumes nothing.
use Prim.Native.Nat.{ℕ, ◌+◌, ◌-◌, ◌≤◌}
use native.Mathlib.Omega.{arith}
use mathlib.Core.Path.{◌≡◌, sym, ap, subst, ◌∙◌}
use mathlib.Core.List.{◌++◌, append-nil}
use lib.ListN.{length, take, drop, drop_of_length-le, length-drop, length-take}
use lib.Seq.{take-append_seam, drop-append_seam}
use borrow.Rule.Slice.PartMut.{put_mid}
use borrow.Author.Rules.{part_to_end}
use Rattle.rules.specs.Language.{Expression}
use Rattle.matching.specs.Settled.{Kept, share}

-- what was lent from the a-th to the end comes back behind the first a
comes_back : (a : ℕ) (kept others : Kept) → put_mid a (length kept - a) kept others ≡ take a kept ++ others
comes_back a kept others =
    let none : length (drop a kept) ≤ length kept - a = omega (arith, length-drop a kept) in
    ap (λ (rest : Kept). take a kept ++ (others ++ rest)) (drop_of_length-le (drop a kept) none)
    ∙ ap (λ (all : Kept). take a kept ++ all) (append-nil others)

-- ---- the sets for two operands

-- So many of the sets are lent for the first operand and come back in front, then the others for the second.
pub record Divided (a : Expression) (kept : Kept) (n : ℕ) (first second : Kept) : Type 0 where
  pub for_first : take n kept ≡ take (share a kept) kept
  pub for_second : take (length (first ++ drop n kept) - n) (drop n (first ++ drop n kept)) ≡ drop (share a kept) kept
  pub front : length first ≡ share a kept
  pub all : length first + length second ≡ length kept
  pub back : put_mid n (length (first ++ drop n kept) - n) (first ++ drop n kept) second ≡ first ++ second

-- the first have come back
module _ (kept first : Kept) {n : ℕ} (within : n ≤ length kept) (fits : length first ≡ length (take n kept)) where
  first_size : length first ≡ n
  first_size = omega (arith, length-take n kept)

  pub first_back : take n (first ++ drop n kept) ≡ first
  first_back = subst (λ (m : ℕ). take m (first ++ drop n kept) ≡ first) first_size (take-append_seam first (drop n kept))

  behind_first : drop n (first ++ drop n kept) ≡ drop n kept
  behind_first = subst (λ (m : ℕ). drop m (first ++ drop n kept) ≡ drop n kept) first_size (drop-append_seam first (drop n kept))

  others_lent : take (length (first ++ drop n kept) - n) (drop n (first ++ drop n kept)) ≡ drop n kept
  others_lent = part_to_end (first ++ drop n kept) n ∙ behind_first

module _ (a : Expression) (kept first : Kept) {n : ℕ} (shared : n ≡ share a kept) (fits : length first ≡ length (take n kept)) where
  pub divided : {second : Kept} → length second ≡ length (take (length (first ++ drop n kept) - n) (drop n (first ++ drop n kept)))
      → Divided a kept n first second
  divided {second} fits_too =
      let within : n ≤ length kept = omega (arith, shared) in
      let lent = others_lent kept first within fits in
      let size = first_size kept first within fits in
      let rest : length second ≡ length kept - n = fits_too ∙ ap length lent ∙ length-drop n kept in
      record {
        for_first = ap (λ (m : ℕ). take m kept) shared;
        for_second = lent ∙ ap (λ (m : ℕ). drop m kept) shared;
        front = size ∙ shared;
        all = omega (arith, size);
        back = comes_back n (first ++ drop n kept) second ∙ ap (λ (front : Kept). front ++ second) (first_back kept first within fits);
      }

  -- where the others are not lent
  pub undivided : Divided a kept n first (drop n kept)
  undivided =
      let within : n ≤ length kept = omega (arith, shared) in
      divided (ap length (sym (others_lent kept first within fits)))
