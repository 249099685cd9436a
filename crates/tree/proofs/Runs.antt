-- Runs in a tree in document order: the run of k is the records from k up to `end t k`. There stands the next sibling
-- of k, if it has one. Assumes nothing.
use Prim.Native.Nat.{ℕ, zero, suc, ◌+◌, ◌-◌, pred, ◌≤◌, ◌<◌}
use native.Mathlib.Nat.{le_refl, le_antisymm, eq-or-lt_of_le, zero-lt-suc}
use native.Mathlib.Decide.{dec_le, dec_lt, le_ind}
use native.Mathlib.Omega.{arith}
use mathlib.Core.Path.{◌≡◌}
use mathlib.Core.Logic.{◌⊎◌, inl, inr}
use lib.ListN.{length}
use Rattle.tree.specs.Tree.{Tree, parent_at, Child, Next, Above, here, up, InOrder, RunEnds}
use Rattle.tree.proofs.Order.{above_trans, child_above, above_le, above_node, above_antisym, parent_smaller, child_less, child_node, above_parent, above_linear, child_before, no_gap}
use Rattle.tree.proofs.Siblings.{child_unique, next_unique, previous_or_first}

-- the first record from j up to b whose parent comes before k, or b if there is none
record Stop (t : Tree) (k j b : ℕ) : Type 0 where
  place : ℕ
  low : j ≤ place
  high : place ≤ b
  inside : (m : ℕ) → j ≤ m → m < place → k ≤ parent_at t m
  outside : place < b → parent_at t place < k

-- the search may end where it begins
stop_here : {t : Tree} {k j b : ℕ} → j ≤ b → (j < b → parent_at t j < k) → Stop t k j b
stop_here {t} {k} {j} l h =
    record { place = j; low = le_refl j; high = l; inside = λ m g u. absurd (omega arith); outside = h }

-- the search among n records
stop : (t : Tree) (k n j : ℕ) → Stop t k j (j + n)
stop t k zero j = stop_here (omega arith) (λ l. absurd (omega arith))
stop t k (suc n) j =
    elim (dec_lt (parent_at t j) k) [
      | yes h ↦ stop_here (omega arith) (λ l. h)
      | no h ↦
          let r = stop t k n (suc j) in
          record {
            place = r.place;
            low = omega arith;
            high = omega arith;
            inside = λ m g l. elim (eq-or-lt_of_le g) [ inl e ↦ rw (← e) (omega arith) | inr b ↦ r.inside m b l ];
            outside = λ l. r.outside (omega arith);
          }
    ]

-- the search among the records behind k
stop_behind : (t : Tree) (k : ℕ) → Stop t k (suc k) (suc k + (length t - suc k))
stop_behind t k = stop t k (length t - suc k) (suc k)

-- the first record behind the run of k
pub end : Tree → ℕ → ℕ
end t k = (stop_behind t k).place

module _ (t : Tree) (o : InOrder t) where
  -- the end of a run is behind its node, and at most the number of nodes
  pub end_behind : (k : ℕ) → k < length t → (k < end t k) × (end t k ≤ length t)
  unfolding end
  end_behind k l = let s = stop_behind t k in (s.low, omega arith)

  -- the parents of the records behind k in its run are in the run
  parent_inside : (k j : ℕ) → k < j → j < end t k → k ≤ parent_at t j
  unfolding end
  parent_inside k j h e = (stop_behind t k).inside j h e

  -- the parent of the record behind a run comes before the run
  pub parent_outside : (k : ℕ) → end t k < length t → parent_at t (end t k) < k
  unfolding end
  parent_outside k e = let s = stop_behind t k in s.outside (omega (arith, s.low))

  -- before the end, the record behind a record of the run is in the run
  run_step : {k i : ℕ} → k < length t → suc i < end t k → k ≤ i → Above t k i → Above t k (suc i)
  unfolding InOrder
  run_step {k} {i} l e h x =
      let b = end_behind k l in
      let y = above_linear t o (omega arith) x (o i (omega arith)) (parent_inside k (suc i) (omega arith) e) in
      up (zero-lt-suc i) y

  -- the records from k up to the end of its run are under k
  pub in_run : {k : ℕ} → k < length t → (j : ℕ) → k ≤ j → j < end t k → Above t k j
  in_run {k} l j h e =
      le_ind (λ (i : ℕ). i < end t k → Above t k i) (λ u. here) (λ i g r u. run_step l u g (r (omega arith))) j h e

  -- every node under k comes before the end of its run
  pub behind_run : {k : ℕ} (j : ℕ) → j < length t → Above t k j → j < end t k
  behind_run {k} j l a =
      elim (dec_lt j (end t k)) [
        | yes h ↦ h
        | no h ↦
            let b = end_behind k (above_node t o l a) in
            let g = parent_outside k (omega arith) in
            let y = no_gap t o {m = end t k} l (omega arith) (omega arith) a in
            let (q, c, x) = above_parent t o (omega arith) y (omega arith) in
            let s = above_le t o (child_node t o c) x in
            absurd (omega (arith, c.parent))
      ]

  -- the run of k is the records from k up to its end
  pub end_runs : (k : ℕ) → k < length t → RunEnds t k (end t k)
  end_runs k l =
      let b = end_behind k l in
      record {
        inside = λ j h e. record { node = omega arith; below = in_run l j h e };
        outside = λ j r. (above_le t o r.node r.below, behind_run j r.node r.below);
      }

  -- where the first record behind k stands whose parent comes before k, there the run of k ends; where there is none, it ends with the last node
  pub run_ends_at : {k e : ℕ} → k < length t → k < e → e ≤ length t → ((j : ℕ) → j < e → k < j → k ≤ parent_at t j) → (e < length t → parent_at t e < k)
      → RunEnds t k e
  run_ends_at {k} {e} l low high inside outside =
      let b = end_behind k l in
      let not_less : ¬ (e < end t k) = λ h. let g = parent_inside k e low h in let x = outside (omega arith) in omega arith in
      let not_more : ¬ (end t k < e) = λ h. let g = inside (end t k) h b.0 in let x = parent_outside k (omega arith) in omega arith in
      let same : e ≡ end t k = omega arith in
      rw same (end_runs k l)

  -- of two ends of one run, the first is no greater
  run_ends_le : {k e e' : ℕ} → RunEnds t k e → RunEnds t k e' → k < length t → e ≤ e'
  run_ends_le {k} {e} {e'} r r' l =
      elim (dec_le e e') [
        | yes h ↦ h
        | no h ↦
            let s = r'.outside k (record { node = l; below = here }) in
            let s' = r'.outside e' (r.inside e' (omega arith) (omega arith)) in
            absurd (omega arith)
      ]

  -- a run has one end
  pub run_ends_unique : {k e e' : ℕ} → RunEnds t k e → RunEnds t k e' → k < length t → e ≡ e'
  run_ends_unique r r' l = le_antisymm (run_ends_le r r' l) (run_ends_le r' r l)

  -- that end is behind the node, and at most the number of nodes
  pub run_ends_behind : {k e : ℕ} → k < length t → RunEnds t k e → (k < e) × (e ≤ length t)
  run_ends_behind {k} l r = rw (run_ends_unique r (end_runs k l) l) (end_behind k l)

  -- the run of a node ends no later than the run of an ancestor
  pub above_end : {a b : ℕ} → b < length t → Above t a b → end t b ≤ end t a
  above_end {a} {b} l x =
      let h = end_behind b l in
      let y = in_run l (pred (end t b)) (omega arith) (omega arith) in
      let g = behind_run (pred (end t b)) (omega arith) (above_trans t x y) in
      omega arith

  -- the run of a child ends no later than the run of its parent
  pub child_end : {p k : ℕ} → Child t p k → end t k ≤ end t p
  child_end c = above_end c.node (child_above t c)

  -- two runs are disjoint or one holds the other
  pub runs_nest : {a b : ℕ} → b < length t → a ≤ b → (end t a ≤ b) ⊎ (Above t a b × (end t b ≤ end t a))
  runs_nest {a} {b} l h =
      elim (dec_le (end t a) b) [
        | yes e ↦ inl e
        | no e ↦ let x = in_run (omega arith) b h (omega arith) in inr (x, above_end l x)
      ]

  -- a proper ancestor of a child is above its parent
  pub above_child : {a p k : ℕ} → Child t p k → Above t a k → ¬ (a ≡ k) → Above t a p
  above_child c x n =
      let (q, d, y) = above_parent t o c.node x n in
      rw (child_unique t d c) at y

  -- the record behind k is its first child or, where k has none, the end of its run
  pub child_or_end : (k : ℕ) → k < length t → Child t k (suc k) ⊎ ((end t k ≡ suc k) × ((j : ℕ) → ¬ Child t k j))
  child_or_end k l =
      let b = end_behind k l in
      elim (dec_lt (suc k) (end t k)) [
        | yes h ↦
            let g = parent_inside k (suc k) (omega arith) h in
            let s = parent_smaller t o (suc k) (omega arith) (omega arith) in
            inl (record { later = omega arith; node = omega arith; parent = omega arith })
        | no h ↦
            inr (
              omega arith,
              λ j c.
                  let g = behind_run j c.node (child_above t c) in
                  let s = child_less t o c in
                  omega arith,
            )
      ]

  -- a node with a child has its first child right behind it
  pub first_child : {k j : ℕ} → Child t k j → Child t k (suc k)
  first_child {k} {j} c =
      elim (child_or_end k (child_node t o c)) [
        | inl d ↦ d
        | inr h ↦ absurd (h.1 j c)
      ]

  -- that child has no previous sibling
  pub first_has_no_previous : {k : ℕ} → Child t k (suc k) → (j : ℕ) → ¬ Next t j (suc k)
  first_has_no_previous {k} c j n =
      let h = child_less t o n.left in
      let e = child_unique t c n.right in
      let l = n.order in
      omega arith

  -- and a child with no previous sibling is that child
  pub no_previous_is_first : {k j : ℕ} → Child t k j → ((i : ℕ) → ¬ Next t i j) → j ≡ suc k
  no_previous_is_first {k} {j} c f =
      let l = child_less t o c in
      elim (previous_or_first t c) [
        | inl x ↦ absurd (f x.0 x.1)
        | inr h ↦
            elim (dec_lt (suc k) j) [
              | yes g ↦ absurd (h (suc k) g (first_child c))
              | no g ↦ omega arith
            ]
      ]

  -- no sibling of k stands in the run of k
  no_sibling_inside : {p k j : ℕ} → Child t p k → k < j → j < end t k → ¬ Child t p j
  no_sibling_inside {p} {k} {j} c h e d =
      let l = child_less t o c in
      let g = above_le t o (child_node t o c) (above_child d (in_run c.node j (omega arith) e) (omega arith)) in
      omega arith

  -- where the run of k ends before the run of its parent, the record behind it is a sibling
  end_is_sibling : {p k : ℕ} → Child t p k → end t k < end t p → Child t p (end t k)
  end_is_sibling {p} {k} c e =
      let n = child_node t o c in
      let b = end_behind p n in
      let h = end_behind k c.node in
      let g = parent_outside k (omega arith) in
      let s = child_less t o c in
      let (q, d, x) = above_parent t o (omega arith) (in_run n (end t k) (omega arith) e) (omega arith) in
      let v = in_run c.node (pred (end t k)) (omega arith) (omega arith) in
      let w = above_linear t o (omega arith) (child_before t o (omega arith) d) v (omega (arith, d.parent)) in
      rw (above_antisym t o (child_node t o d) x (above_child c w (omega (arith, d.parent)))) d

  -- the end of the run of k is its next sibling or, where it has none, the end of the run of its parent
  pub sibling_or_last : {p k : ℕ} → Child t p k → Next t k (end t k) ⊎ ((end t k ≡ end t p) × ((j : ℕ) → ¬ Next t k j))
  sibling_or_last {p} {k} c =
      let s = child_end c in
      let l = end_behind k c.node in
      elim (dec_lt (end t k) (end t p)) [
        | yes e ↦
            inl (record {
              above = p;
              left = c;
              right = end_is_sibling c e;
              order = l.0;
              between = λ m h g. no_sibling_inside c h g;
            })
        | no e ↦
            inr (
              omega arith,
              λ j n.
                  let d = rw (child_unique t n.left c) at n.right in
                  let g = behind_run j d.node (child_above t d) in
                  no_sibling_inside c n.order (omega arith) d,
            )
      ]

  -- the next sibling of k is the end of its run
  pub next_is_end : {k j : ℕ} → Next t k j → j ≡ end t k
  next_is_end {k} {j} n =
      elim (sibling_or_last n.left) [
        | inl m ↦ next_unique t n m
        | inr h ↦ absurd (h.1 j n)
      ]
