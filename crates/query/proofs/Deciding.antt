-- Functions that compute what a path reaches and where a filter holds, and that they agree with the meaning. Assumes nothing.
use Prim.Native.Nat.{ℕ, ◌<◌}
use mathlib.Core.Path.{◌≡◌}
use mathlib.Core.Logic.{◌↔◌}
use mathlib.Core.Bool.{Bool, true, false, ◌&&◌, ◌||◌}
use mathlib.Core.Bool as bool
use mathlib.Core.List.{List}
use lib.ListN.{length}
use lib.Dec.{T, ltb, eqb}
use Rattle.tree.specs.Tree.{Tree, label_at, parent_at, Child, Next, InOrder}
use Rattle.query.specs.Syntax.{Path, self, child, parent, next, previous, stay, then, either, star}
use Rattle.query.specs.Syntax.{Filter, labelled, leads, always, never, not, and, or}
use Rattle.query.specs.Meaning.{reach, holds}
use Rattle.query.proofs.Inside.{reach_inside}
use Rattle.tree.proofs.Tests.{Decides, passes, less_test, equal_test, and_test, or_test, not_test, same_test}
use Rattle.query.proofs.Sets.{has, single, union, keep, any, some, some_test}
use Rattle.query.proofs.Steps.{Steps, from_node, from_node_any, follow, self_steps, follow_steps, keep_steps, then_steps, either_steps}
use Rattle.query.proofs.Rounds.{grow, star_steps}

-- j is a child of i
unfoldable pub is_child : Tree → ℕ → ℕ → Bool
unfolding parent_at
is_child t i j = ltb 0 j && ltb j (length t) && eqb (parent_at t j) i

-- some child of k stands between i and j
unfoldable pub child_between : Tree → ℕ → ℕ → ℕ → Bool
unfolding is_child some
child_between t k i j = some (length t) (λ m. ltb i m && ltb m j && is_child t k m)

-- j is the next sibling of i
unfoldable pub is_next : Tree → ℕ → ℕ → Bool
unfolding is_child child_between
is_next t i j = ltb i j && is_child t (parent_at t j) i && is_child t (parent_at t j) j && bool.not (child_between t (parent_at t j) i j)

unfoldable mutual
  unfolding follow union keep grow is_child is_next any single label_at

  -- what the path reaches from the nodes of s
  pub image : Tree → Path → List Bool → List Bool
  image t self s = s
  image t child s = follow (length t) (is_child t) s
  image t parent s = follow (length t) (λ i j. is_child t j i) s
  image t next s = follow (length t) (is_next t) s
  image t previous s = follow (length t) (λ i j. is_next t j i) s
  image t (stay f) s = keep (λ i. test t f i) s
  image t (then p q) s = image t q (image t p s)
  image t (either p q) s = union (image t p s) (image t q s)
  image t (star p) s = grow (length t) (λ z. image t p z) s

  -- whether the filter holds at i
  pub test : Tree → Filter → ℕ → Bool
  test t (labelled l) i = eqb (label_at t i) l
  test t (leads p) i = any (image t p (single (length t) i))
  test t always i = true
  test t never i = false
  test t (not f) i = bool.not (test t f i)
  test t (and f g) i = test t f i && test t g i
  test t (or f g) i = test t f i || test t g i

module _ (t : Tree) where
  -- the three tests agree with the relations on the tree
  child_test : (i j : ℕ) → Decides (is_child t i j) (Child t i j)
  unfolding is_child
  child_test i j =
      same_test (and_test (and_test (less_test 0 j) (less_test j (length t))) (equal_test (parent_at t j) i)) (
        λ (x, e). record { later = x.0; node = x.1; parent = e },
        λ c. ((c.later, c.node), c.parent),
      )

  between_test : (k i j : ℕ) → Decides (child_between t k i j) ((m : ℕ) × (i < m) × (m < j) × Child t k m)
  unfolding child_between
  between_test k i j =
      same_test (some_test (length t) (λ m. and_test (and_test (less_test i m) (less_test m j)) (child_test k m)) (λ m x. x.1.node))
      (λ (m, x). (m, x.0.0, x.0.1, x.1), λ (m, a, b, c). (m, ((a, b), c)))

  next_test : (i j : ℕ) → Decides (is_next t i j) (Next t i j)
  unfolding is_next
  next_test i j =
      let k = parent_at t j in
      same_test (and_test (and_test (and_test (less_test i j) (child_test k i)) (child_test k j)) (not_test (between_test k i j))) (
        λ (x, none). record { above = k; left = x.0.1; right = x.1; order = x.0.0; between = λ m a b c. none (m, a, b, c) },
        λ n.
            let e : parent_at t j ≡ n.above = n.right.parent in
            (((n.order, rw e n.left), rw e n.right), λ (m, a, b, c). n.between m a b (rw e at c)),
      )

module _ (t : Tree) (o : InOrder t) where
  mutual
    unfolding image reach

    -- the image steps along the path
    image_steps : (p : Path) → Steps (length t) (reach t p) (image t p)
    image_steps self = self_steps (length t)
    image_steps child = follow_steps (length t) (is_child t) (child_test t) (λ i j. reach_inside t o child)
    image_steps parent = follow_steps (length t) (λ i j. is_child t j i) (λ i j. child_test t j i) (λ i j. reach_inside t o parent)
    image_steps next = follow_steps (length t) (is_next t) (next_test t) (λ i j. reach_inside t o next)
    image_steps previous = follow_steps (length t) (λ i j. is_next t j i) (λ i j. next_test t j i) (λ i j. reach_inside t o previous)
    image_steps (stay f) = keep_steps (length t) (λ i. test t f i) (λ i l. filter_test f i l)
    image_steps (then p q) = then_steps (length t) (image_steps p) (image_steps q)
    image_steps (either p q) = either_steps (length t) (image_steps p) (image_steps q)
    image_steps (star p) = star_steps (length t) (reach t p) (λ s. image t p s) (image_steps p)

    -- the test decides the filter
    filter_test : (f : Filter) (i : ℕ) → i < length t → Decides (test t f i) (holds t f i)
    filter_test (labelled l) i h = equal_test (label_at t i) l
    filter_test (leads p) i h = from_node_any (image_steps p) i h
    filter_test always i h = passes true
    filter_test never i h = passes false
    filter_test (not f) i h = not_test (filter_test f i h)
    filter_test (and f g) i h = and_test (filter_test f i h) (filter_test g i h)
    filter_test (or f g) i h = or_test (filter_test f i h) (filter_test g i h)

  -- an image is what the path reaches from the set
  pub image_right : (p : Path) (s : List Bool) → length s ≡ length t → (j : ℕ)
      → T (has (image t p s) j) ↔ ((i : ℕ) × T (has s i) × reach t p i j)
  image_right p = (image_steps p).right

  -- the image of a node is what the path reaches from it
  pub image_node : (p : Path) (i : ℕ) → i < length t → (j : ℕ) → Decides (has (image t p (single (length t) i)) j) (reach t p i j)
  image_node p = from_node (image_steps p)

  -- the test passes where the filter holds
  pub test_right : (f : Filter) (i : ℕ) → i < length t → T (test t f i) ↔ holds t f i
  test_right f i l = (filter_test f i l).exact
