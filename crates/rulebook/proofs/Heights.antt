-- The height of an entry, from the heights that are known of the entries before it. Assumes nothing.
use Prim.Native.Nat.{ℕ, ◌+◌, ◌<◌, max}
use native.Mathlib.Omega.{arith}
use mathlib.Core.Path.{◌≡◌, refl, sym, ap, ◌∙◌}
use mathlib.Core.Logic.{◌⊎◌, ⊎_elim}
use mathlib.Core.List.{List}
use lib.ListN.{length, get_or}
use Rattle.query.specs.Table.{Entries}
use Rattle.rules.specs.declared.Rule.{Rule}
use Rattle.rules.specs.declared.Rule.TheVariants.{Empty, One, Then, Either, Star}
use Rattle.rules.specs.Table.{expression_at, height}
use Rattle.rules.specs.Read.{FieldsRight, Is, meaning}
use Rattle.rules.proofs.Standing.{is_meant}
use Rattle.rulebook.specs.Rulebook.{HeightsKnown}

-- the greatest height of its operands
abbrev pub below : List ℕ → Rule → ℕ
below heights Empty = 0
below heights (One l) = 0
below heights (Then a b) = max (get_or heights a 0) (get_or heights b 0)
below heights (Either a b) = max (get_or heights a 0) (get_or heights b 0)
below heights (Star a) = get_or heights a 0

module _ (heights : List ℕ) {rule : Rule} where
  -- by what the entry is
  pub of_none : (rule ≡ Empty) ⊎ ((l : ℕ) × (rule ≡ One l)) → 0 ≡ below heights rule
  of_none is = ⊎_elim (λ e. rw e refl) (λ (l, e). rw e refl) is

  pub of_two : {a b n : ℕ} → (rule ≡ Then a b) ⊎ (rule ≡ Either a b) → n ≡ max (get_or heights a 0) (get_or heights b 0) → n ≡ below heights rule
  of_two is found = ⊎_elim (λ e. rw e found) (λ e. rw e found) is

-- it is one less than its own
pub grown : (rule : Rule) (heights : List ℕ) {i n : ℕ} → FieldsRight i rule → n ≡ below heights rule → (es : Entries) → HeightsKnown es heights i
    → n + 1 ≡ height (meaning es rule)
unfolding height
grown Empty heights right found es known = omega (arith, found)
grown (One l) heights right found es known = omega (arith, found)
grown (Then a b) heights (l, r) found es known = omega (arith, found, known a l, known b r)
grown (Either a b) heights (l, r) found es known = omega (arith, found, known a l, known b r)
grown (Star a) heights l found es known = omega (arith, found, known a l)

-- and its own is that of what it stands for
pub own_height : {es : Entries} {i n : ℕ} {rule : Rule} → i < length es → Is es i rule → n ≡ height (meaning es rule)
    → n ≡ height (expression_at es i)
own_height {es} {i} within is found = found ∙ sym (ap height (is_meant es i within is))
