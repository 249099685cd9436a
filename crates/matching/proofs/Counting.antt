-- The number of an entry's stars, from those of the entries before it. Assumes nothing.
use Prim.Native.Nat.{ℕ, ◌+◌, ◌≤◌, ◌<◌, min}
use native.Mathlib.Omega.{arith}
use mathlib.Core.Path.{◌≡◌, refl, sym, ap, ◌∙◌}
use mathlib.Core.Logic.{◌⊎◌, ⊎_elim}
use mathlib.Core.List.{List}
use lib.ListN.{length, get_or}
use Rattle.query.specs.Table.{Entries}
use Rattle.rules.specs.declared.Rule.{Rule}
use Rattle.rules.specs.declared.Rule.TheVariants.{Empty, One, Then, Either, Star}
use Rattle.rules.specs.Language.{Expression, empty, one, then, either, star}
use Rattle.rules.specs.Table.{expression_at}
use Rattle.rules.specs.Read.{Is, meaning}
use Rattle.rules.proofs.Standing.{is_meant}
use Rattle.matching.specs.Settled.{stars, CountedTo}

-- at most 32 are counted of any expression
pub few : (x : Expression) → stars x ≤ 32
unfolding stars
few empty = omega arith
few (one l) = omega arith
few (then a b) = omega arith
few (either a b) = omega arith
few (star a) = omega arith

-- by what the entry is, over the numbers of its operands
abbrev pub summed : List ℕ → Rule → ℕ
summed counts Empty = 0
summed counts (One l) = 0
summed counts (Then a b) = min 32 (get_or counts a 0 + get_or counts b 0)
summed counts (Either a b) = min 32 (get_or counts a 0 + get_or counts b 0)
summed counts (Star a) = min 32 (get_or counts a 0 + 1)

module _ (counts : List ℕ) {rule : Rule} where
  pub of_none : (rule ≡ Empty) ⊎ ((l : ℕ) × (rule ≡ One l)) → 0 ≡ summed counts rule
  of_none is = ⊎_elim (λ e. rw e refl) (λ (l, e). rw e refl) is

  pub of_two : {a b n : ℕ} → (rule ≡ Then a b) ⊎ (rule ≡ Either a b) → n ≡ min 32 (get_or counts a 0 + get_or counts b 0) → n ≡ summed counts rule
  of_two is found = ⊎_elim (λ e. rw e found) (λ e. rw e found) is

-- the operands of an entry with two stand before it
pub both_before : {es : Entries} {i : ℕ} {rule : Rule} {a b : ℕ} → Is es i rule → (rule ≡ Then a b) ⊎ (rule ≡ Either a b) → (a < i) × (b < i)
both_before is two = ⊎_elim (λ e. (rw e at is).right) (λ e. (rw e at is).right) two

module _ (es : Entries) (counts : List ℕ) (i : ℕ) (counted : CountedTo es counts i) where
  -- an earlier entry's number is known, and not above 32
  pub known_few : {x : ℕ} → x < i → get_or counts x 0 ≤ 32
  known_few {x} l = omega (arith, counted x l, few (expression_at es x))

  meant : (rule : Rule) → Is es i rule → summed counts rule ≡ stars (meaning es rule)
  unfolding stars
  meant Empty is = refl
  meant (One l) is = refl
  meant (Then a b) is = omega (arith, counted a is.right.0, counted b is.right.1)
  meant (Either a b) is = omega (arith, counted a is.right.0, counted b is.right.1)
  meant (Star a) is = omega (arith, counted a is.right)

  pub summed_up : {rule : Rule} {n : ℕ} → i < length es → Is es i rule → n ≡ summed counts rule → n ≡ stars (expression_at es i)
  summed_up {rule} within is found = found ∙ meant rule is ∙ sym (ap stars (is_meant es i within is))
