-- A test that computes whether a node is above another. Assumes nothing.
use Prim.Native.Nat.{ℕ, zero, suc}
use mathlib.Core.Path.{subst}
use mathlib.Core.Logic.{⊎_elim}
use mathlib.Core.Bool.{Bool, ◌&&◌, ◌||◌}
use lib.Dec.{T, eqb, ltb, eqb→eq, ltb→lt}
use mir.Facts.{and_yes, or_yes}
use Rattle.tree.specs.Tree.{Tree, parent_at, Above, here, up}

-- p is i or an ancestor of i that at most n steps up lead to
unfoldable pub is_above : Tree → ℕ → ℕ → ℕ → Bool
is_above t zero p i = eqb p i
is_above t (suc n) p i = eqb p i || (ltb 0 i && is_above t n p (parent_at t i))

pub is_above_lem : (t : Tree) (n p i : ℕ) → T (is_above t n p i) → Above t p i
unfolding is_above
is_above_lem t zero p i h = subst (λ (x : ℕ). Above t p x) (eqb→eq p i h) here
is_above_lem t (suc n) p i h =
    ⊎_elim
    (λ e. subst (λ (x : ℕ). Above t p x) (eqb→eq p i e) here)
    (λ k. let (z, rest) = and_yes (ltb 0 i) (is_above t n p (parent_at t i)) k in up (ltb→lt 0 i z) (is_above_lem t n p (parent_at t i) rest))
    (or_yes (eqb p i) (ltb 0 i && is_above t n p (parent_at t i)) h)
