-- Functions on sets that step along a relation: one for each relation that paths are made of. Assumes nothing.
use Prim.Native.Nat.{ℕ, ◌<◌}
use mathlib.Core.Path.{◌≡◌, refl, sym, subst, ◌∙◌}
use mathlib.Core.Logic.Iff
use mathlib.Core.Logic.{◌↔◌, ◌⊎◌, inl, inr, ⊎_elim, ⊎_map}
use mathlib.Core.Bool.{Bool, ◌&&◌}
use mathlib.Core.List.{List}
use lib.ListN.{length}
use lib.Dec.{T, eqb}
use Rattle.tree.proofs.Tests.{Decides, passes, and_test, same_test}
use Rattle.query.proofs.Sets.{has, has_inside, tabulate, length_tabulate, has_tabulate, union, has_union, single, has_single, keep, has_keep}
use Rattle.query.proofs.Sets.{any, any_test, some, some_test}

-- in sets of n nodes, f takes a set to what R reaches from it
pub record Steps (n : ℕ) (R : ℕ → ℕ → Type 0) (f : List Bool → List Bool) : Type 0 where
  pub nodes : (s : List Bool) → length s ≡ n → length (f s) ≡ n
  pub right : (s : List Bool) → length s ≡ n → (j : ℕ) → T (has (f s) j) ↔ ((i : ℕ) × T (has s i) × R i j)

module _ {n : ℕ} {R : ℕ → ℕ → Type 0} {f : List Bool → List Bool} (steps : Steps n R f) (i : ℕ) (l : i < n) where
  -- the steps from one node
  pub from_node : (j : ℕ) → Decides (has (f (single n i)) j) (R i j)
  unfolding single
  from_node j =
      let all = steps.right (single n i) (length_tabulate n (eqb i)) j in record {
        exact = (
          λ x. let (k, y, r) = all.0 x in subst (λ (m : ℕ). R m j) (sym ((has_single k l).0 y)) r,
          λ r. all.1 (i, (has_single i l).1 refl, r),
        );
      }

  -- whether there is a step from one node
  pub from_node_any : Decides (any (f (single n i))) ((j : ℕ) × R i j)
  from_node_any = same_test (any_test (f (single n i))) (λ (j, x). (j, (from_node j).exact.0 x), λ (j, r). (j, (from_node j).exact.1 r))

-- what a relation given as a test reaches from s, among n nodes
unfoldable pub follow : ℕ → (ℕ → ℕ → Bool) → List Bool → List Bool
unfolding tabulate some
follow n r s = tabulate n (λ j. some n (λ i. has s i && r i j))

module _ (n : ℕ) where
  -- the members of a set of n nodes are nodes
  below : (s : List Bool) → length s ≡ n → (i : ℕ) → T (has s i) → i < n
  below s e i x = subst (λ (k : ℕ). i < k) e (has_inside s i x)

  -- the set itself steps along equality
  pub self_steps : Steps n (λ i j. i ≡ j) (λ s. s)
  self_steps = record {
    nodes = λ s e. e;
    right = λ s e j. (λ x. (j, x, refl), λ (i, x, r). subst (λ (k : ℕ). T (has s k)) r x);
  }

  -- a test of a relation between nodes steps along it
  pub follow_steps : {R : ℕ → ℕ → Type 0} (r : ℕ → ℕ → Bool) → ((i j : ℕ) → Decides (r i j) (R i j)) → ((i j : ℕ) → i < n → R i j → j < n)
      → Steps n R (follow n r)
  unfolding follow
  follow_steps {R} r test inside = record {
    nodes = λ s e. length_tabulate n _;
    right = λ s e j. has_tabulate n (λ k. some n (λ i. has s i && r i k)) j (found s e j) (λ (i, x, a). inside i j (below s e i x) a);
  }
    where
      found : (s : List Bool) → length s ≡ n → (j : ℕ) → Decides (some n (λ i. has s i && r i j)) ((i : ℕ) × T (has s i) × R i j)
      found s e j =
          same_test (some_test n (λ i. and_test (passes (has s i)) (test i j)) (λ i x. below s e i x.0))
          (λ (i, x). (i, x.0, x.1), λ (i, x, a). (i, (x, a)))

  -- a test of a property steps along staying where it holds
  pub keep_steps : {P : ℕ → Type 0} (f : ℕ → Bool) → ((i : ℕ) → i < n → Decides (f i) (P i)) → Steps n (λ i j. (i ≡ j) × P i) (keep f)
  unfolding keep
  keep_steps f test = record {
    nodes = λ s e. length_tabulate (length s) _ ∙ e;
    right = λ s e j. (
      λ x. let (y, a) = (has_keep f s j).0 x in (j, y, (refl, (test j (below s e j y)).exact.0 a)),
      λ (i, x, a). subst (λ (k : ℕ). T (has (keep f s) k)) a.0 ((has_keep f s i).1 (x, (test i (below s e i x)).exact.1 a.1)),
    );
  }

  module _ {R Q : ℕ → ℕ → Type 0} {f g : List Bool → List Bool} (left : Steps n R f) (right : Steps n Q g) where
    -- one after the other: composition
    pub then_steps : Steps n (λ i j. (k : ℕ) × R i k × Q k j) (λ s. g (f s))
    then_steps = record {
      nodes = λ s e. right.nodes (f s) (left.nodes s e);
      right = λ s e j.
          let last = right.right (f s) (left.nodes s e) j in (
            λ x. let (k, y, q) = last.0 x in let (i, z, r) = (left.right s e k).0 y in (i, z, (k, r, q)),
            λ (i, x, a). last.1 (a.0, (left.right s e a.0).1 (i, x, a.1), a.2),
          );
    }

    -- both: union
    pub either_steps : Steps n (λ i j. R i j ⊎ Q i j) (λ s. union (f s) (g s))
    unfolding union
    either_steps = record {
      nodes = λ s e. length_tabulate (length (f s)) _ ∙ left.nodes s e;
      right = λ s e j. Iff.trans (has_union (f s) (g s) (right.nodes s e ∙ sym (left.nodes s e)) j) (
        ⊎_elim
            (λ x. let (i, y, r) = (left.right s e j).0 x in (i, y, inl r))
            (λ x. let (i, y, q) = (right.right s e j).0 x in (i, y, inr q)),
        λ (i, x, a). ⊎_map (λ r. (left.right s e j).1 (i, x, r)) (λ q. (right.right s e j).1 (i, x, q)) a,
      );
    }
