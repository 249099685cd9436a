-- The star of a path is the reflexive transitive closure of the path: the least relation that is reflexive and closed under a step more.
-- Assumes nothing.
use Prim.Native.Nat.{ℕ}
use Rattle.tree.specs.Tree.{Tree}
use Rattle.query.specs.Syntax.{Path, star}
use Rattle.query.specs.Meaning.{Star, stop, step, reach}

-- what every step keeps, a star keeps
pub star_keeps : {R : ℕ → ℕ → Type 0} (P : ℕ → Type 0) → ((i j : ℕ) → P i → R i j → P j) → {i j : ℕ} → P i → Star R i j → P j
star_keeps P keeps x stop = x
star_keeps P keeps x (step r more) = star_keeps P keeps (keeps _ _ x r) more

-- a star of one relation is a star of another that holds wherever the first does
pub star_map : {R S : ℕ → ℕ → Type 0} → ((i j : ℕ) → R i j → S i j) → {i j : ℕ} → Star R i j → Star S i j
star_map f stop = stop
star_map f (step r more) = step (f _ _ r) (star_map f more)

-- a star and a step more
pub star_more : {R : ℕ → ℕ → Type 0} {i k j : ℕ} → Star R i k → R k j → Star R i j
star_more stop last = step last stop
star_more (step r more) last = step r (star_more more last)

-- a star behind a star is one, and so a star of stars
pub star_append : {R : ℕ → ℕ → Type 0} {i k j : ℕ} → Star R i k → Star R k j → Star R i j
star_append {R} {i} first more = star_keeps (Star R i) (λ a b s r. star_more s r) first more

pub star_flat : {R : ℕ → ℕ → Type 0} {i j : ℕ} → Star (Star R) i j → Star R i j
star_flat {R} {i} more = star_keeps (Star R i) (λ a b s r. star_append s r) stop more

module _ (t : Tree) (p : Path) where
  -- "zero or more times": no step at all
  pub star_reflexive : (i : ℕ) → reach t (star p) i i
  unfolding reach
  star_reflexive i = stop

  -- a step, and then more of them
  pub star_step : (i k j : ℕ) → reach t p i k → reach t (star p) k j → reach t (star p) i j
  unfolding reach
  star_step i k j r more = step r more

  -- and nothing else: whatever is reflexive and closed under a step in front holds along a star
  pub star_least : (Q : ℕ → ℕ → Type 0) → ((i : ℕ) → Q i i) → ((i k j : ℕ) → reach t p i k → Q k j → Q i j) → (i j : ℕ) → reach t (star p) i j → Q i j
  unfolding reach
  star_least Q reflexive more i j = go
    where
      go : {i j : ℕ} → Star (reach t p) i j → Q i j
      go stop = reflexive _
      go (step r s) = more _ _ _ r (go s)
