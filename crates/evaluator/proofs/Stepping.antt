-- Stars along axes: where the sources are all nodes, a star of steps from sources is the star of the path. Assumes nothing.
use Prim.Native.Nat.{ℕ, ◌≤◌, ◌<◌}
use native.Mathlib.Nat.{lt_of_lt_of_le}
use mathlib.Core.Logic.Iff
use mathlib.Core.Logic.{◌↔◌, ◌⊎◌, ⊎_map}
use mathlib.Core.List.{List}
use lib.ListN.{length}
use Rattle.tree.specs.Tree.{Tree, InOrder}
use Rattle.query.specs.Syntax.{Path, either}
use Rattle.query.specs.Meaning.{Star, reach}
use Rattle.sets.specs.Sets.{Holds, Image}
use Rattle.steps.specs.Axis.{AlongAny}
use Rattle.steps.specs.Star.{StepFrom}
use Rattle.steps.specs.declared.axis.Axes.{Axes}
use Rattle.steps.proofs.SeveralAxes.{any_node, any_end}
use Rattle.evaluator.proofs.Walks.{Then}
use Rattle.std.specs.Prelude.{Some}
use Rattle.evaluator.specs.Ways.{Leads}
use Rattle.evaluator.proofs.Images.{Stays, image_star}
use Rattle.evaluator.proofs.Filtered.{From}

-- a choice of paths that lead along axes leads along the axes of either
pub choice_leads : {a b r : Axes} (p q : Path) → Leads p (Some a) → Leads q (Some b)
    → ((t : Tree) (i j : ℕ) → AlongAny t r i j ↔ (AlongAny t a i j ⊎ AlongAny t b i j)) → Leads (either p q) (Some r)
unfolding reach
choice_leads p q x y both t i j =
    Iff.trans (both t i j) (⊎_map (x t i j).0 (y t i j).0, ⊎_map (x t i j).1 (y t i j).1)

-- a step from a source, said twice
pub step_from : {t : Tree} {axes : Axes} {sources : List ℕ} (i j : ℕ) → StepFrom t axes sources i j ↔ From (AlongAny t axes) sources i j
step_from i j = (λ s. (s.source, s.leads), λ (x, l). record { source = x; leads = l })

module _ {t : Tree} (o : InOrder t) (most : length t ≤ 4096) where
  -- every node is a source
  every_source : {axes : Axes} {all : List ℕ} → Holds (λ k. k < 4096) all → (i j : ℕ) → StepFrom t axes all i j ↔ AlongAny t axes i j
  every_source every i j =
      (λ s. s.leads, λ l. record { source = (every.exact i).1 (lt_of_lt_of_le (any_node t o l) most); leads = l })

  pub star_of_steps : {axes : Axes} {all from r : List ℕ} → Holds (λ k. k < 4096) all → Image (Star (StepFrom t axes all)) from r
      → Image (Star (AlongAny t axes)) from r
  star_of_steps every = image_star (every_source every)

  -- steps stay among the nodes
  pub steps_stay : {axes : Axes} → Stays (length t) (AlongAny t axes)
  steps_stay i j l s = any_end t o s

-- of one path and then another, either may be put for axes along which it leads
pub then_along : {t : Tree} {axes : Axes} (p : Path) (R : ℕ → ℕ → Type 0) → Leads p (Some axes) → (i j : ℕ)
    → Then R (AlongAny t axes) i j ↔ Then R (reach t p) i j
then_along {t} p R leads i j = (λ (k, x, y). (k, x, (leads t k j).0 y), λ (k, x, y). (k, x, (leads t k j).1 y))

pub along_then : {t : Tree} {axes : Axes} (p : Path) (R : ℕ → ℕ → Type 0) → Leads p (Some axes) → (i j : ℕ)
    → Then (AlongAny t axes) R i j ↔ Then (reach t p) R i j
along_then {t} p R leads i j = (λ (k, x, y). (k, (leads t i k).0 x, y), λ (k, x, y). (k, (leads t i k).1 x, y))
