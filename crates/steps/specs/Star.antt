-- What a star along axes has gone on from, and what it has reached.
use Rattle.std.specs.Prelude.{ℕ, ◌+◌, ◌*◌, ◌^◌, ◌<◌, ◌≡◌, ◌↔◌, ◌⊎◌, List, Option, Some, None}
use Rattle.tree.specs.Tree.{Tree}
use Rattle.query.specs.Meaning.{Star}
use Rattle.sets.specs.Bits.{digit}
use Rattle.sets.specs.Sets.{In}
use Rattle.steps.specs.declared.axis.Axes.{Axes}
use Rattle.steps.specs.Axis.{AlongAny}

-- a step along one of the axes leads from i to j, and i is a source
pub record StepFrom (t : Tree) (axes : Axes) (sources : List ℕ) (i j : ℕ) : Type 0 where
  pub source : In sources i
  pub leads : AlongAny t axes i j

-- k is in the set and may be gone on from, and that has not been done
pub record Waits (set sources gone : List ℕ) (k : ℕ) : Type 0 where
  pub member : In set k
  pub source : In sources k
  pub left : ¬ In gone k

-- the digits of a word are the numbers of the property among the 64 that word w has
pub record Digits (P : ℕ → Type 0) (w word : ℕ) : Type 0 where
  pub each : (k : ℕ) → k < 64 → (digit word k ≡ 1) ↔ P (64 * w + k)
  pub fits : word < 2 ^ 64

-- a word with a number of the property, or none where no number of a set has it
abbrev pub WordWith : (ℕ → Type 0) → Option ℕ → Type 0
WordWith P (Some w) = (k : ℕ) × (w < 64) × (k < 64) × P (64 * w + k)
WordWith P None = (k : ℕ) → k < 4096 → ¬ P k

-- From `set`, of which `gone` has been gone on from, it came to `more` and `after`: what is new was reached, and all that is new in `after`
-- has been gone on from.
pub record GoneOn (R : ℕ → ℕ → Type 0) (set gone more after : List ℕ) : Type 0 where
  pub kept : (k : ℕ) → In set k → In more k
  pub reached : (j : ℕ) → In more j → (i : ℕ) × In set i × Star R i j
  pub still : (k : ℕ) → In gone k → In after k
  pub closed : (i j : ℕ) → In after i → R i j → In gone i ⊎ In more j
