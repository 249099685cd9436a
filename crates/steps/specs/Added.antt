-- What the parts of a step add to a set.
use Rattle.std.specs.Prelude.{ℕ, ◌≤◌, ◌<◌, ◌≡◌, ◌↔◌, ◌⊎◌, List, get_or}
use Rattle.tree.specs.Tree.{Tree, Child}
use Rattle.sets.specs.Bits.{digit}
use Rattle.sets.specs.Sets.{In, Holds}

-- `after` is `before` with what has the property
abbrev pub Added : (ℕ → Type 0) → List ℕ → List ℕ → Type 0
Added P before after = Holds (λ j. In before j ⊎ P j) after

-- j is the first child of i
pub record FirstChild (t : Tree) (i j : ℕ) : Type 0 where
  pub child : Child t i j
  pub first : (k : ℕ) → Child t i k → j ≤ k

-- the i-th link leads to j
pub record Leads (links : List ℕ) (i j : ℕ) : Type 0 where
  pub link : get_or links i 65535 ≡ j
  pub node : j < 4096

-- R leads to j from a digit of the word
abbrev pub LedTo : (ℕ → ℕ → Type 0) → ℕ → ℕ → Type 0
LedTo R word j = (k : ℕ) × (k < 64) × (digit word k ≡ 1) × R k j
