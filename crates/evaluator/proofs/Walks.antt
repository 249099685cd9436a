-- The image of a set under each kind of path, on each course. Assumes nothing.
use Prim.Native.Nat.{ℕ}
use mathlib.Core.Path.{◌≡◌, refl}
use mathlib.Core.Logic.Iff
use mathlib.Core.Logic.{◌↔◌, ◌⊎◌, inl, inr}
use mathlib.Core.List.{List}
use lib.ListN.{length}
use Rattle.tree.specs.Tree.{Tree, InOrder}
use Rattle.query.specs.Syntax.{Path, Filter, self, stay, then, either, star}
use Rattle.query.specs.Meaning.{reach, holds}
use Rattle.query.specs.Turn.{turn, free}
use Rattle.query.proofs.Inside.{reach_inside}
use Rattle.query.proofs.Turn.{turn_right}
use Rattle.sets.specs.Sets.{In, Holds, Image, Narrowed}
use Rattle.steps.specs.Axis.{Along}
use Rattle.steps.specs.declared.axis.Axis.{Axis}
use Rattle.steps.specs.declared.axis.Axis.TheVariants.{Child, Parent, Next, Previous}
use Rattle.evaluator.specs.declared.course.Course.{Course}
use Rattle.evaluator.specs.declared.course.Course.TheVariants.{Forwards, Backwards, Freely}
use Rattle.evaluator.specs.Course.{facing, path_of, first_of}
use Rattle.evaluator.specs.Evaluator.{Still}
use Rattle.evaluator.proofs.Images.{Stays, image_self, image_stay, image_either, image_star_star}

-- one relation and then another
abbrev pub Then : (ℕ → ℕ → Type 0) → (ℕ → ℕ → Type 0) → ℕ → ℕ → Type 0
Then R Q i j = (k : ℕ) × R i k × Q k j

-- a choice faces as its parts do
pub facing_either : (course : Course) (p q : Path) → either (facing course p) (facing course q) ≡ facing course (either p q)
unfolding turn free
facing_either Forwards p q = refl
facing_either Backwards p q = refl
facing_either Freely p q = refl

-- a filter stays where it is
pub stay_still : (course : Course) (f : Filter) → Still (facing course (stay f))
unfolding reach turn free
stay_still Forwards f t i j r = r.0
stay_still Backwards f t i j r = r.0
stay_still Freely f t i j r = r

-- one path and then another, in the order of the course
pub then_parts : (path : ℕ → Path) (course : Course) (left right : ℕ) (t : Tree) (i j : ℕ)
    → reach t (facing course (then (path left) (path right))) i j
    ↔ Then (reach t (facing course (path (first_of course left right)))) (reach t (facing course (path (first_of course right left)))) i j
unfolding reach turn free
then_parts path Forwards left right t i j = Iff.rfl
then_parts path Backwards left right t i j = Iff.rfl
then_parts path Freely left right t i j = Iff.rfl

module _ (t : Tree) where
  -- a path stays among the nodes, walked either way
  pub walk_stays : InOrder t → (p : Path) → Stays (length t) (reach t p)
  walk_stays o p i j l r = reach_inside t o p l r

  -- what the path reaches from a set, on a course
  abbrev pub Walked : Course → Path → List ℕ → List ℕ → Type 0
  Walked course p from r = Image (reach t (facing course p)) from r

  -- an axis leads where its path does
  pub axis_leads : (axis : Axis) (i j : ℕ) → Along t axis i j ↔ reach t (path_of axis) i j
  unfolding reach
  axis_leads Child i j = Iff.rfl
  axis_leads Parent i j = Iff.rfl
  axis_leads Next i j = Iff.rfl
  axis_leads Previous i j = Iff.rfl

  -- on every course but backwards, and backwards
  pub axis_forwards : (axis : Axis) (i j : ℕ) → Along t axis i j ↔ reach t (facing Forwards (path_of axis)) i j
  axis_forwards axis = axis_leads axis

  pub axis_freely : (axis : Axis) (i j : ℕ) → Along t axis i j ↔ reach t (facing Freely (path_of axis)) i j
  unfolding free
  axis_freely Child = axis_leads Child
  axis_freely Parent = axis_leads Parent
  axis_freely Next = axis_leads Next
  axis_freely Previous = axis_leads Previous

  pub axis_backwards : (axis way : Axis) → ((i j : ℕ) → Along t way i j ↔ Along t axis j i)
      → (i j : ℕ) → Along t way i j ↔ reach t (facing Backwards (path_of axis)) i j
  axis_backwards axis way turned i j = Iff.trans (turned i j) (Iff.trans (axis_leads axis j i) (Iff.symm (turn_right t (path_of axis) i j)))

  module _ {from : List ℕ} where
    pub walk_self : (course : Course) → Walked course self from from
    unfolding reach turn free
    walk_self Forwards = image_self
    walk_self Backwards = image_self
    walk_self Freely = image_self

    -- a filter taken to hold keeps the set
    pub walk_free : (f : Filter) → Walked Freely (stay f) from from
    unfolding reach free
    walk_free f = image_self

    pub walk_stay : (course : Course) (f : Filter) {r : List ℕ} → (course ≡ Forwards) ⊎ (course ≡ Backwards) → Narrowed (holds t f) from r
        → Walked course (stay f) from r
    unfolding reach turn
    walk_stay Forwards f e n = image_stay n
    walk_stay Backwards f e n = image_stay n
    walk_stay Freely f (inl e) n = cc
    walk_stay Freely f (inr e) n = cc

    module _ (p q : Path) where
      pub walk_either : (course : Course) {one other r : List ℕ} → Walked course p from one → Walked course q from other
          → Holds (λ k. In one k ⊎ In other k) r → Walked course (either p q) from r
      unfolding reach turn free
      walk_either Forwards a b u = image_either a b u
      walk_either Backwards a b u = image_either a b u
      walk_either Freely a b u = image_either a b u

    pub walk_star : (course : Course) (p : Path) {r : List ℕ} → Image (reach t (star (facing course p))) from r → Walked course (star p) from r
    unfolding turn free
    walk_star Forwards p a = a
    walk_star Backwards p a = a
    walk_star Freely p a = a

    -- a star in a star adds nothing
    pub walk_star_star : (course : Course) (p : Path) {r : List ℕ} → Image (reach t (star (facing course p))) from r
        → Image (reach t (star (facing course (star p)))) from r
    unfolding reach turn free
    walk_star_star Forwards p a = image_star_star a
    walk_star_star Backwards p a = image_star_star a
    walk_star_star Freely p a = image_star_star a
