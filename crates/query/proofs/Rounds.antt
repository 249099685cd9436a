-- A star by rounds: a set grows by one step at a time until it rests, at the latest after as many rounds as there are nodes. Assumes nothing.
use Prim.Native.Nat.{ℕ, zero, suc, ◌+◌, ◌≤◌, ◌<◌}
use native.Mathlib.Omega.{arith}
use mathlib.Core.Path.{◌≡◌, refl, sym, subst, ◌∙◌}
use mathlib.Core.Logic.{◌↔◌, ◌⊎◌, inl, inr, ⊎_elim}
use mathlib.Core.Bool.{Bool, cond}
use mathlib.Core.List.{List}
use lib.ListN.{length}
use lib.Dec.{T, leb, leb→le, nleb→lt}
use Rattle.query.specs.Meaning.{Star, stop, step}
use Rattle.query.proofs.Closure.{star_keeps}
use Rattle.tree.proofs.Tests.{choice}
use Rattle.query.proofs.Sets.{has, length_tabulate, union, has_union, size, size_bound, part_whole}
use Rattle.query.proofs.Steps.{Steps}

-- one round: s and what f makes of it
abbrev pub round : (List Bool → List Bool) → List Bool → List Bool
round f s = union s (f s)

-- at most k rounds, and none after one that adds nothing
unfoldable pub grow : ℕ → (List Bool → List Bool) → List Bool → List Bool
unfolding union size
grow zero f s = s
grow (suc k) f s =
    let more = round f s in
    let rest = grow k f more in
    cond (leb (size more) (size s)) s rest

-- z is the least set that holds s and is closed under R
record Closure (R : ℕ → ℕ → Type 0) (s z : List Bool) : Type 0 where
  nodes : length z ≡ length s
  holds : (i : ℕ) → T (has s i) → T (has z i)
  closed : (i j : ℕ) → T (has z i) → R i j → T (has z j)
  least : (j : ℕ) → T (has z j) → (i : ℕ) × T (has s i) × Star R i j

-- the closure is what the star reaches
closure_star : {R : ℕ → ℕ → Type 0} {s z : List Bool} → Closure R s z → (j : ℕ) → T (has z j) ↔ ((i : ℕ) × T (has s i) × Star R i j)
closure_star {z = z} c j = (c.least j, λ (i, x, r). star_keeps (λ (k : ℕ). T (has z k)) c.closed (c.holds i x) r)

module _ (n : ℕ) (R : ℕ → ℕ → Type 0) (f : List Bool → List Bool) (steps : Steps n R f) where
  module _ (s : List Bool) (e : length s ≡ n) where
    -- what a round holds
    has_round : (j : ℕ) → T (has (round f s) j) ↔ (T (has s j) ⊎ T (has (f s) j))
    has_round = has_union s (f s) (steps.nodes s e ∙ sym e)

    length_round : length (round f s) ≡ length s
    unfolding union
    length_round = length_tabulate (length s) _

    -- a set to which a round adds nothing is its own closure
    at_rest : size (round f s) ≤ size s → Closure R s s
    at_rest l = record {
      nodes = refl;
      holds = λ i x. x;
      closed = λ i j x r. subst (λ (z : List Bool). T (has z j)) (sym same) ((has_round j).1 (inr ((steps.right s e j).1 (i, x, r))));
      least = λ j x. (j, x, stop);
    }
      where
        same : s ≡ round f s
        same = part_whole s (round f s) (sym length_round) (λ i x. (has_round i).1 (inl x)) l

    -- the closure of a round is the closure of the set
    one_round : {z : List Bool} → Closure R (round f s) z → Closure R s z
    one_round c = record {
      nodes = c.nodes ∙ length_round;
      holds = λ i x. c.holds i ((has_round i).1 (inl x));
      closed = c.closed;
      least = λ j x.
          let (k, y, r) = c.least j x in
          ⊎_elim (λ z. (k, z, r)) (λ z. let (i, w, q) = (steps.right s e k).0 z in (i, w, step q r)) ((has_round k).0 y);
    }

  -- a round that does not rest adds a member, and there are at most n
  grow_closure : (k : ℕ) (s : List Bool) → length s ≡ n → n ≤ k + size s → Closure R s (grow k f s)
  unfolding grow
  grow_closure zero s e l =
      let h : size (round f s) ≤ length (round f s) = size_bound (round f s) in
      let m : length (round f s) ≡ length s = length_round s e in
      at_rest s e (omega arith)
  grow_closure (suc k) s e l =
      choice (Closure R s) (leb (size (round f s)) (size s)) s (grow k f (round f s))
      (λ x. at_rest s e (leb→le (size (round f s)) (size s) x))
      (λ x.
      let h : size s < size (round f s) = nleb→lt (size (round f s)) (size s) x in
      one_round s e (grow_closure k (round f s) (length_round s e ∙ e) (omega arith)))

  -- as many rounds as there are nodes step along the star
  pub star_steps : Steps n (Star R) (grow n f)
  star_steps = record {
    nodes = λ s e. (closure s e).nodes ∙ e;
    right = λ s e j. closure_star (closure s e) j;
  }
    where
      closure : (s : List Bool) → length s ≡ n → Closure R s (grow n f s)
      closure s e = grow_closure n s e (omega arith)
