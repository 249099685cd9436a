-- `sets::merge::merge_front`: where one word is merged alone, the others stay as they are.
use Prim.Native.Nat.{ℕ, ◌≤◌}
use native.Mathlib.Omega.{arith}
use mathlib.Core.Path.{◌≡◌, refl}
use mathlib.Core.Logic.{◌⊎◌, inl, inr}
use lib.ListN.{get_or}
use Rattle.sets.proofs.Words.{none_made, one_made, all_written}
use Rattle.sets.proofs.merge.merge_front.Goals as goal

pub returns-then-words-eq1 : goal.returns-then-words-eq1
returns-then-words-eq1 g c =
    let set = c.args.set.now in
    let C : ℕ → ℕ → Type 0 =
    λ j v. g.F.Fn.post c.args.how (get_or set j 0, (get_or c.args.other.now j 0, tt)) v ⊎ ((c.args.words ≤ j) × (v ≡ get_or set j 0)) in
    all_written {C = C} (one_made {C = C} (none_made set) (omega arith) (inl c.how.ensures)) (λ j past l. inr (omega arith, refl))

pub returns-else-words-eq1 : goal.returns-else-words-eq1
returns-else-words-eq1 g c j l = inl (c.merge_into.ensures j l)
