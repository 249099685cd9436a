-- Links: for each record the one that a relation leads to from it, if there is one.
use Rattle.std.specs.Prelude.{ℕ, ◌+◌, ◌<◌, ◌≡◌, List, get_or, Option, Some, None}
use Rattle.tree.specs.Tree.{Tree, Next}

-- what the link of i says
pub data Link (R : ℕ → ℕ → Type 0) (i : ℕ) : ℕ → Type 0 where
  to : {j : ℕ} → j < 4096 → R i j → Link R i j
  nowhere : ((j : ℕ) → ¬ R i j) → Link R i 65535

-- the same of an answer
abbrev pub LinkIs : (ℕ → ℕ → Type 0) → ℕ → Option ℕ → Type 0
LinkIs R i (Some j) = (j < 4096) × R i j
LinkIs R i None = (j : ℕ) → ¬ R i j

-- how a link's number is answered: 65,535 is none
abbrev pub NumberIs : ℕ → Option ℕ → Type 0
NumberIs link (Some j) = (link ≡ j) × (j < 65535)
NumberIs link None = link ≡ 65535

-- every one of the 4,096 links is right
pub record Linked (R : ℕ → ℕ → Type 0) (link : ℕ → ℕ) : Type 0 where
  pub each : (i : ℕ) → i < 4096 → Link R i (link i)

-- the links of all records stand in one list: those to the next sibling, and behind them those to the previous one
abbrev pub next : List ℕ → ℕ → ℕ
next links i = get_or links i 65535

abbrev pub previous : List ℕ → ℕ → ℕ
previous links i = get_or links (4096 + i) 65535

-- the links of a tree: the next and the previous sibling of every record
pub record Siblings (t : Tree) (links : List ℕ) : Type 0 where
  pub onwards : Linked (Next t) (next links)
  pub backwards : Linked (λ i j. Next t j i) (previous links)
