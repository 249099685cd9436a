-- A set narrowed to where a filter holds, for each filter that is made of others. Assumes nothing.
use Prim.Native.Nat.{ℕ}
use mathlib.Core.Logic.{◌↔◌, ◌⊎◌, inl, inr, ⊎_elim}
use mathlib.Core.List.{List}
use Rattle.sets.specs.Sets.{In, Holds, Image, Narrowed}
use Rattle.sets.proofs.Size.{dec_in}

module _ {from : List ℕ} where
  -- "true" keeps the set, "false" leaves nothing
  pub narrow_always : Narrowed (λ k. Unit {0}) from from
  narrow_always = record { exact = λ k. (λ x. (x, tt), λ x. x.0) }

  pub narrow_never : {r : List ℕ} → Holds (λ k. ⊥) r → Narrowed (λ k. ⊥) from r
  narrow_never e = record { exact = λ k. (λ x. absurd ((e.exact k).0 x), λ x. absurd x.1) }

  -- "left leads somewhere": who is in the image, under the relation turned round, of all that it could lead to
  pub narrow_leads : {R Free Back : ℕ → ℕ → Type 0} {ends starts r : List ℕ} → ((i j : ℕ) → R i j → Free i j) → ((i j : ℕ) → Back i j ↔ R j i)
      → Image Free from ends → Image Back ends starts → Holds (λ k. In from k × In starts k) r → Narrowed (λ k. (j : ℕ) × R k j) from r
  narrow_leads loose turned a b both = record {
    exact = λ k. (
      λ x. let (y, z) = (both.exact k).0 x in let (j, w, p) = (b.exact k).0 z in (y, (j, (turned j k).0 p)),
      λ (x, y). let (j, p) = y in (both.exact k).1 (x, (b.exact k).1 (j, (a.exact j).1 (k, x, loose k j p), (turned j k).1 p)),
    );
  }

  module _ {P : ℕ → Type 0} {first : List ℕ} (a : Narrowed P from first) where
    -- "not"
    pub narrow_not : {r : List ℕ} → Holds (λ k. In from k × ¬ In first k) r → Narrowed (λ k. ¬ P k) from r
    narrow_not d = record {
      exact = λ k. (
        λ x. let (y, out) = (d.exact k).0 x in (y, λ p. out ((a.exact k).1 (y, p))),
        λ (x, out). (d.exact k).1 (x, λ y. out ((a.exact k).0 y).1),
      );
    }

    -- "and"
    pub narrow_and : {Q : ℕ → Type 0} {r : List ℕ} → Narrowed Q first r → Narrowed (λ k. P k × Q k) from r
    narrow_and b = record {
      exact = λ k. (
        λ x. let (y, q) = (b.exact k).0 x in let (z, p) = (a.exact k).0 y in (z, (p, q)),
        λ (x, y). (b.exact k).1 ((a.exact k).1 (x, y.0), y.1),
      );
    }

    -- "or": the second is asked only where the first does not hold
    pub narrow_or : {Q : ℕ → Type 0} {rest second r : List ℕ} → Holds (λ k. In from k × ¬ In first k) rest → Narrowed Q rest second
        → Holds (λ k. In first k ⊎ In second k) r → Narrowed (λ k. P k ⊎ Q k) from r
    narrow_or {Q} {rest} {second} {r} d b u = record {
      exact = λ k. (
        λ x. ⊎_elim (λ y. let (z, p) = (a.exact k).0 y in (z, inl p)) (λ y. let (z, q) = (b.exact k).0 y in (((d.exact k).0 z).0, inr q)) ((u.exact k).0 x),
        λ (x, y). (u.exact k).1 (here k x y (dec_in first k)),
      );
    }
      where
        here : (k : ℕ) → In from k → P k ⊎ Q k → Dec (In first k) → In first k ⊎ In second k
        here k x y (yes z) = inl z
        here k x y (no out) = inr ((b.exact k).1 ((d.exact k).1 (x, out), ⊎_elim (λ p. absurd (out ((a.exact k).1 (x, p)))) (λ q. q) y))
