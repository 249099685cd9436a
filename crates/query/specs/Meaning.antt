-- "A path is a relation between nodes, as in source document 000": what each path reaches, and where each filter holds.
use Rattle.std.specs.Prelude.{ℕ, ◌≡◌, ◌⊎◌}
use Rattle.tree.specs.Tree.{Tree, label_at, Child, Next}
use Rattle.query.specs.Syntax.{Path, self, child, parent, next, previous, stay, then, either, star}
use Rattle.query.specs.Syntax.{Filter, labelled, leads, always, never, not, and, or}

-- "the reflexive transitive closure": stop, or take a step and go on.
pub data Star (R : ℕ → ℕ → Type 0) : ℕ → ℕ → Type 0 where
  stop : {i : ℕ} → Star R i i
  step : {i k j : ℕ} → R i k → Star R k j → Star R i j

unfoldable mutual
  -- the path leads from i to j
  pub reach : Tree → Path → ℕ → ℕ → Type 0
  reach t self i j = i ≡ j
  reach t child i j = Child t i j
  reach t parent i j = Child t j i
  reach t next i j = Next t i j
  reach t previous i j = Next t j i
  reach t (stay f) i j = (i ≡ j) × holds t f i
  reach t (then p q) i j = (k : ℕ) × reach t p i k × reach t q k j
  reach t (either p q) i j = reach t p i j ⊎ reach t q i j
  reach t (star p) i j = Star (reach t p) i j

  -- the filter holds at i
  pub holds : Tree → Filter → ℕ → Type 0
  holds t (labelled l) i = label_at t i ≡ l
  holds t (leads p) i = (j : ℕ) × reach t p i j
  holds t always i = Unit {0}
  holds t never i = ⊥
  holds t (not f) i = ¬ holds t f i
  holds t (and f g) i = holds t f i × holds t g i
  holds t (or f g) i = holds t f i ⊎ holds t g i
