-- Stars of a filter and a step, in either order: the filter is asked of what the star starts from, and then of all nodes at once. Assumes
-- nothing.
use Prim.Native.Nat.{ℕ, ◌<◌}
use mathlib.Core.Path.{◌≡◌, refl}
use mathlib.Core.Logic.{◌⊎◌, inl, inr, ⊎_elim}
use mathlib.Core.List.{List}
use lib.ListN.{length}
use Rattle.tree.specs.Tree.{Tree}
use Rattle.query.specs.Syntax.{Path}
use Rattle.query.specs.Meaning.{Star, stop, step, reach}
use Rattle.query.proofs.Closure.{star_keeps, star_map, star_more}
use Rattle.sets.specs.Sets.{In, Holds, Image, Inside}
use Rattle.evaluator.proofs.Walks.{Then}
use Rattle.evaluator.specs.Evaluator.{Still, Sources}
use Rattle.evaluator.proofs.Images.{Stays, image_inside, star_stays}

-- a step that starts from one of the sources
abbrev pub From : (ℕ → ℕ → Type 0) → List ℕ → ℕ → ℕ → Type 0
From A sources i j = In sources i × A i j

-- the filter first: a star from the sources, each of which is a node where the filter's path leads to itself
module _ {t : Tree} {p : Path} {A : ℕ → ℕ → Type 0} (still : Still p) (stays : Stays (length t) A) {from sources r : List ℕ}
    (inside : Inside (length t) from) (sieve : Sources t p from sources) (found : Image (Star (From A sources)) from r) where
  -- where it leads anywhere, it leads to itself
  itself : (i k : ℕ) → reach t p i k → reach t p i i
  itself i k held = let e = still t i k held in rw e (rw e at held)

  pub filter_first : Image (Star (Then (reach t p) A)) from r
  filter_first = record {
    exact = λ j. (
      λ x. let (i, y, s) = (found.exact j).0 x in (i, y, star_map (λ a b (z, l). (a, sieve.sound a z, l)) s),
      λ (i, x, s). (found.exact j).1 (i, x, ⊎_elim (λ all. goes_on i all (inside i x) s) (λ none. ends_there none x s) sieve.whole),
    );
  }
    where
      goes_on : (i : ℕ) {j : ℕ} → ((k : ℕ) → k < length t → reach t p k k → In sources k) → i < length t → Star (Then (reach t p) A) i j
          → Star (From A sources) i j
      goes_on i all l s =
          (star_keeps (λ k. (k < length t) × Star (From A sources) i k)
          (λ a b (m, u) (k, held, led). let on : A a b = rw (still t a k held) led in
          (stays a b m on, star_more u (all a m (itself a k held), on)))
          (l, stop) s).1

      ends_there : {i j : ℕ} → ((k : ℕ) → In from k → ¬ reach t p k k) → In from i → Star (Then (reach t p) A) i j
          → Star (From A sources) i j
      ends_there none x stop = stop
      ends_there {i} none x (step (k, held, led) more) = absurd (none i x (itself i k held))

  -- where it ends and the filter holds
  pub ends_held : {kept : List ℕ} → Holds (λ k. In r k × In sources k) kept → Image (reach t p) r kept
  ends_held both = record {
    exact = λ j. (
      λ x. let (y, z) = (both.exact j).0 x in (j, y, sieve.sound j z),
      λ (i, x, held). let e = still t i j held in (both.exact j).1 (rw e at x, rw e at (held_at i x (itself i j held))),
    );
  }
    where
      nowhere : {i j : ℕ} → ((k : ℕ) → In from k → ¬ reach t p k k) → In from i → Star (From A sources) i j → ¬ reach t p j j
      nowhere none x stop = none _ x
      nowhere none x (step (z, led) more) = absurd (none _ x (sieve.sound _ z))

      held_at : (i : ℕ) → In r i → reach t p i i → In sources i
      held_at i x held =
          let (m, y, s) = (found.exact i).0 x in
          ⊎_elim (λ all. all i (image_inside (star_stays (λ a b l (z, led). stays a b l led)) inside found i x) held)
          (λ none. absurd (nowhere none y s held)) sieve.whole

-- one relation and then another, many times: the first, then many times the other and the first, then the other
module _ {A T : ℕ → ℕ → Type 0} where
  goes : {i m n j : ℕ} → A i m → Star (Then T A) m n → T n j → Star (Then A T) i j
  goes {m = m} a stop t = step (m, a, t) stop
  goes {m = m} a (step (k, u, b) more) t = step (m, a, u) (goes b more t)

  gone : {i j : ℕ} → Star (Then A T) i j → (i ≡ j) ⊎ ((m : ℕ) × A i m × (n : ℕ) × Star (Then T A) m n × T n j)
  gone stop = inl refl
  gone (step (k, a, t) more) =
      ⊎_elim (λ e. inr (k, a, k, stop, rw e at t)) (λ (m, b, n, s, u). inr (k, a, n, step (_, t, b) s, u)) (gone more)

  pub step_first : {from begun ends kept r : List ℕ} → Image A from begun → Image (Star (Then T A)) begun ends → Image T ends kept
      → Holds (λ k. In from k ⊎ In kept k) r → Image (Star (Then A T)) from r
  step_first {from} {kept = kept} begin on hold united = record {
    exact = λ j. (λ x. ⊎_elim (λ y. (j, y, stop)) (forth j) ((united.exact j).0 x), λ (i, x, s). (united.exact j).1 (back i j x (gone s)));
  }
    where
      forth : (j : ℕ) → In kept j → (i : ℕ) × In from i × Star (Then A T) i j
      forth j x =
          let (n, y, t) = (hold.exact j).0 x in
          let (m, z, s) = (on.exact n).0 y in
          let (i, w, a) = (begin.exact m).0 z in
          (i, w, goes a s t)

      back : (i j : ℕ) → In from i → (i ≡ j) ⊎ ((m : ℕ) × A i m × (n : ℕ) × Star (Then T A) m n × T n j) → In from j ⊎ In kept j
      back i j x (inl e) = inl (rw e at x)
      back i j x (inr (m, a, n, s, t)) = inr ((hold.exact j).1 (n, (on.exact n).1 (m, (begin.exact m).1 (i, x, a), s), t))
