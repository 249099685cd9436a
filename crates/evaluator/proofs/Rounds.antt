-- A star goes on from what is new in the last round, and ends when nothing is. Assumes nothing.
use Prim.Native.Nat.{ℕ, ◌≤◌, ◌<◌}
use native.Mathlib.Nat.{lt_of_lt_of_le}
use mathlib.Core.Logic.{◌⊎◌, inl, inr, ⊎_elim}
use mathlib.Core.List.{List}
use Rattle.query.specs.Meaning.{Star, stop}
use Rattle.query.proofs.Closure.{star_keeps, star_more}
use Rattle.sets.specs.Sets.{In, Holds, Image, Inside}
use Rattle.sets.proofs.Size.{dec_in, size_of, grown as size_grown}
use Rattle.evaluator.proofs.Images.{Stays}

-- Between two rounds: `all` is what was gone on from, and `fresh` what is new.
pub record Rounds (n : ℕ) (R : ℕ → ℕ → Type 0) (from all fresh : List ℕ) : Type 0 where
  pub apart : (k : ℕ) → In fresh k → ¬ In all k
  pub start : (k : ℕ) → In from k → In all k ⊎ In fresh k
  pub reached : (k : ℕ) → In all k ⊎ In fresh k → (i : ℕ) × In from i × Star R i k
  pub closed : (i j : ℕ) → In all i → R i j → In all j ⊎ In fresh j
  pub nodes_only : (k : ℕ) → In all k ⊎ In fresh k → k < n

module _ {n : ℕ} {R : ℕ → ℕ → Type 0} {from : List ℕ} where
  -- before the first round
  pub first_round : {all : List ℕ} → Inside n from → Holds (λ k. ⊥) all → Rounds n R from all from
  first_round inside none = record {
    apart = λ k x y. (none.exact k).0 y;
    start = λ k x. inr x;
    reached = λ k. ⊎_elim (λ x. absurd ((none.exact k).0 x)) (λ x. (k, x, stop));
    closed = λ i j x r. absurd ((none.exact i).0 x);
    nodes_only = λ k. ⊎_elim (λ x. absurd ((none.exact k).0 x)) (inside k);
  }

  module _ {all fresh : List ℕ} (so_far : Rounds n R from all fresh) where
    -- one more round
    pub next_round : {grown reached rest : List ℕ} → Stays n R
        → Holds (λ k. In all k ⊎ In fresh k) grown → Image R fresh reached → Holds (λ k. In reached k × ¬ In grown k) rest
        → Rounds n R from grown rest
    next_round {grown} {reached} {rest} stays g a d = record {
      apart = λ k x. ((d.exact k).0 x).1;
      start = λ k x. inl ((g.exact k).1 (so_far.start k x));
      reached = λ k. ⊎_elim (λ x. so_far.reached k ((g.exact k).0 x)) (λ x. new k ((d.exact k).0 x).0);
      closed = λ i j x r. ⊎_elim (λ y. inl ((g.exact j).1 (so_far.closed i j y r))) (λ y. step_on i j y r (dec_in grown j)) ((g.exact i).0 x);
      nodes_only = λ k. ⊎_elim (λ x. so_far.nodes_only k ((g.exact k).0 x)) (λ x. node k ((d.exact k).0 x).0);
    }
      where
        new : (k : ℕ) → In reached k → (i : ℕ) × In from i × Star R i k
        new k x =
            let (m, y, r) = (a.exact k).0 x in
            let (i, z, more) = so_far.reached m (inr y) in
            (i, z, star_more more r)

        node : (k : ℕ) → In reached k → k < n
        node k x = let (i, y, r) = (a.exact k).0 x in stays i k (so_far.nodes_only i (inr y)) r

        step_on : (i j : ℕ) → In fresh i → R i j → Dec (In grown j) → In grown j ⊎ In rest j
        step_on i j x r (yes y) = inl y
        step_on i j x r (no out) = inr ((d.exact j).1 ((a.exact j).1 (i, x, r), out))

    -- a round that has something new adds to what was gone on from
    pub round_adds : {grown : List ℕ} → n ≤ 4096 → ¬ ((k : ℕ) → ¬ In fresh k) → Holds (λ k. In all k ⊎ In fresh k) grown
        → size_of all < size_of grown
    round_adds most some g =
        size_grown (λ k x. (g.exact k).1 (inl x))
        (λ same. some (λ k x. so_far.apart k x (same k (lt_of_lt_of_le (so_far.nodes_only k (inr x)) most) ((g.exact k).1 (inr x)))))

    -- when nothing is new, the star is what was gone on from
    pub last_round : ((k : ℕ) → ¬ In fresh k) → Image (Star R) from all
    last_round none = record {
      exact = λ j. (
        λ x. so_far.reached j (inl x),
        λ (i, x, r). star_keeps (In all) (λ a b y s. old b (so_far.closed a b y s)) (old i (so_far.start i x)) r,
      );
    }
      where
        old : (k : ℕ) → In all k ⊎ In fresh k → In all k
        old k = ⊎_elim (λ x. x) (λ x. absurd (none k x))
