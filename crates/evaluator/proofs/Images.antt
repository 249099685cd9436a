-- The image of a set under each relation that paths are made of. Assumes nothing.
use Prim.Native.Nat.{ℕ, ◌<◌}
use mathlib.Core.Path.{◌≡◌, refl, subst}
use mathlib.Core.Logic.{◌↔◌, ◌⊎◌, inl, inr, ⊎_elim, ⊎_map}
use mathlib.Core.List.{List}
use Rattle.query.specs.Meaning.{Star, stop, step}
use Rattle.query.proofs.Closure.{star_keeps, star_map, star_flat}
use Rattle.sets.specs.Sets.{In, Holds, Image, Narrowed, Inside}

module _ {from : List ℕ} where
  -- a set is its own image under equality
  pub image_self : Image (λ i j. i ≡ j) from from
  image_self = record { exact = λ j. (λ x. (j, x, refl), λ (i, x, e). subst (In from) e x) }

  -- "stay if the filter holds"
  pub image_stay : {P : ℕ → Type 0} {r : List ℕ} → Narrowed P from r → Image (λ i j. (i ≡ j) × P i) from r
  image_stay {P} {r} n = record {
    exact = λ j. (
      λ x. let (y, p) = (n.exact j).0 x in (j, y, (refl, p)),
      λ (i, x, a). subst (In r) a.0 ((n.exact i).1 (x, a.1)),
    );
  }

  module _ {R Q : ℕ → ℕ → Type 0} where
    -- "left, then right"
    pub image_then : {halfway r : List ℕ} → Image R from halfway → Image Q halfway r → Image (λ i j. (k : ℕ) × R i k × Q k j) from r
    image_then a b = record {
      exact = λ j. (
        λ x. let (k, y, q) = (b.exact j).0 x in let (i, z, p) = (a.exact k).0 y in (i, z, (k, p, q)),
        λ (i, x, y). (b.exact j).1 (y.0, (a.exact y.0).1 (i, x, y.1), y.2),
      );
    }

    -- "left or right"
    pub image_either : {one other r : List ℕ} → Image R from one → Image Q from other → Holds (λ k. In one k ⊎ In other k) r
        → Image (λ i j. R i j ⊎ Q i j) from r
    image_either a b u = record {
      exact = λ j. (
        λ x. ⊎_elim (λ y. let (i, z, p) = (a.exact j).0 y in (i, z, inl p)) (λ y. let (i, z, q) = (b.exact j).0 y in (i, z, inr q)) ((u.exact j).0 x),
        λ (i, x, y). (u.exact j).1 (⊎_map (λ p. (a.exact j).1 (i, x, p)) (λ q. (b.exact j).1 (i, x, q)) y),
      );
    }

    -- relations that say the same have the same image
    pub image_same : {r : List ℕ} → ((i j : ℕ) → R i j ↔ Q i j) → Image R from r → Image Q from r
    image_same e a = record {
      exact = λ j. (
        λ x. let (i, y, p) = (a.exact j).0 x in (i, y, (e i j).0 p),
        λ (i, x, q). (a.exact j).1 (i, x, (e i j).1 q),
      );
    }

-- and so have their stars
pub image_star : {R Q : ℕ → ℕ → Type 0} {from r : List ℕ} → ((i j : ℕ) → R i j ↔ Q i j) → Image (Star R) from r → Image (Star Q) from r
image_star e a = image_same (λ i j. (star_map (λ k l. (e k l).0), star_map (λ k l. (e k l).1))) a

-- a star of a star reaches what the star does
pub image_star_star : {R : ℕ → ℕ → Type 0} {from r : List ℕ} → Image (Star R) from r → Image (Star (Star R)) from r
image_star_star a = image_same (λ i j. (λ s. step s stop, star_flat)) a

-- the relation leads from nodes to nodes, of which there are n
abbrev pub Stays : ℕ → (ℕ → ℕ → Type 0) → Type 0
Stays n R = (i j : ℕ) → i < n → R i j → j < n

-- and so does its star
pub star_stays : {n : ℕ} {R : ℕ → ℕ → Type 0} → Stays n R → Stays n (Star R)
star_stays {n} stays i j l s = star_keeps (λ k. k < n) stays l s

-- the image of nodes is nodes
pub image_inside : {n : ℕ} {R : ℕ → ℕ → Type 0} {from r : List ℕ} → Stays n R → Inside n from → Image R from r → Inside n r
image_inside stays inside a k x = let (i, y, p) = (a.exact k).0 x in stays i k (inside i y) p
