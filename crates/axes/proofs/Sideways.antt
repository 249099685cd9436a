-- The next sibling in the view: what `skip`, `onwards` and `forwards` reach on the tree. Assumes nothing.
use Prim.Native.Nat.{ℕ, zero, suc, ◌+◌, ◌-◌, ◌≤◌, ◌<◌}
use native.Mathlib.Nat.{le_refl, pos_of_ne-zero}
use native.Mathlib.Omega.{arith}
use mathlib.Core.Path.{◌≡◌, refl, sym, ◌∙◌}
use mathlib.Core.Logic.Iff
use mathlib.Core.Logic.{◌↔◌, inl, inr, ⊎_elim, ⊎_map}
use lib.ListN.{length}
use Rattle.tree.specs.Tree.{Tree, Child, Next, InOrder}
use Rattle.tree.proofs.Order.{child_node}
use Rattle.tree.proofs.Runs.{end, end_behind, behind_run, sibling_or_last, next_is_end}
use Rattle.tree.proofs.Runs.{child_or_end, first_has_no_previous, no_previous_is_first}
use Rattle.query.specs.Syntax.{Path, Filter, child, next, previous, then, either}
use Rattle.query.specs.Meaning.{Star, stop, step, reach, holds}
use Rattle.view.specs.View.{Nearest, parent, beyond}
use Rattle.view.proofs.Nearest.{NextSeen, nearest_above, nearest_node, nearest_exists}
use Rattle.axes.proofs.Formulas.{no, hidden, skip, onwards, forwards}
use Rattle.axes.proofs.Beside.{Beside, beside_trans, nearest_sibling, nearest_outside, nearest_behind}
use Rattle.axes.proofs.Beside.{Unseen, unseen_none, unseen_one, unseen_join}

module _ (t : Tree) (o : InOrder t) (Seen : ℕ → Type 0) (dec : (i : ℕ) → Dec (Seen i)) (root : Seen 0)
    (vis : Filter) (right : (i : ℕ) → i < length t → holds t vis i ↔ Seen i) where
  -- out of last children of hidden nodes, and on to a next sibling: that is the end of the run, with the same nearest
  skipped : {k m j : ℕ} → Star (reach t (then (no next) (then Path.parent (hidden vis)))) k m → Next t m j → (j ≡ end t k) × Beside t Seen k j
  unfolding reach
  skipped stop n =
      let (p, x) = nearest_exists o dec root _ n.left.later n.left.node in
      (next_is_end t o n, record { above = p; left = x; right = nearest_sibling n.left n.right x })
  skipped {k} (step {k = q} (k', (e, last), (q', c', (f, v))) more) n =
      let c : Child t q k = rw (e, ← f) c' in
      let h : ¬ Seen q = (Iff.not (right q (child_node t o c))).0 (rw f at v) in
      let (same, b) = skipped more n in
      let ends : end t k ≡ end t q = ⊎_elim (λ x. absurd (last (_, x))) (λ x. x.0) (sibling_or_last t o c) in
      (same ∙ sym ends, record { above = b.above; left = beyond c h b.left; right = b.right })

  -- from a last child of a hidden node, `skip` goes where it goes from that node
  skip_out : {q k : ℕ} (j : ℕ) → Child t q k → ¬ Seen q → ((m : ℕ) → ¬ Next t k m) → reach t (skip vis) q j → reach t (skip vis) k j
  unfolding reach skip
  skip_out j c h last (m, more, n) =
      let out = (Iff.not (right _ (child_node t o c))).1 h in
      (m, step (_, (refl, λ (x, y). last x y), (_, c, (refl, out))) more, n)

  -- so there is such a way: the end of the run is a next sibling or ends the parent's run too, and then the parent is hidden
  skipping : {k j p : ℕ} → Nearest t Seen k p → Nearest t Seen j p → j ≡ end t k → reach t (skip vis) k j
  unfolding reach skip
  skipping (parent c s) y e =
      let inside = behind_run t o _ (nearest_node y) (nearest_above y) in
      ⊎_elim (λ n. (_, stop, rw e n)) (λ x. absurd (omega arith)) (sibling_or_last t o c)
  skipping (beyond c h x) y e = ⊎_elim (λ n. (_, stop, rw e n)) (λ (f, last). skip_out _ c h last (skipping x y (e ∙ f))) (sibling_or_last t o c)

  -- `skip` goes to the end of the run, if that is a node with the same nearest
  skip_reaches : (k j : ℕ) → reach t (skip vis) k j ↔ ((j ≡ end t k) × Beside t Seen k j)
  unfolding reach skip
  skip_reaches k j = (λ (m, more, n). skipped more n, λ (e, b). skipping b.left b.right e)

  -- the child without a previous sibling is the record behind
  first_reaches : (k j : ℕ) → reach t (then child (no previous)) k j ↔ ((j ≡ suc k) × Child t k j)
  unfolding reach
  first_reaches k j = (there, λ (e, c). (j, c, (refl, λ (i, n). first_has_no_previous t o (rw e at c) i (rw e at n))))
    where
      there : reach t (then child (no previous)) k j → (j ≡ suc k) × Child t k j
      there (m, c, (e, first)) =
          let d : Child t k j = rw e at c in
          (no_previous_is_first t o d (λ i n. first (i, rw e n)), d)

  -- from a node without children, `skip` goes to the record behind
  leaf_reaches : (k j : ℕ) → reach t (then (no child) (skip vis)) k j ↔ (((m : ℕ) → ¬ Child t k m) × (j ≡ suc k) × Beside t Seen k j)
  unfolding reach
  leaf_reaches k j = (there, λ (none, e, b). (k, (refl, λ (m, c). none m c), (skip_reaches k j).1 (e ∙ sym (ends none b), b)))
    where
      ends : ((m : ℕ) → ¬ Child t k m) → Beside t Seen k j → end t k ≡ suc k
      ends none b = ⊎_elim (λ c. absurd (none _ c)) (λ x. x.0) (child_or_end t o k (nearest_node b.left))

      there : reach t (then (no child) (skip vis)) k j → ((m : ℕ) → ¬ Child t k m) × (j ≡ suc k) × Beside t Seen k j
      there (m, (f, none), r) =
          let (e, b) = (skip_reaches k j).0 (rw f r) in
          let childless : (m : ℕ) → ¬ Child t k m = λ m c. none (m, c) in
          (childless, e ∙ ends childless b, b)

  -- `onwards` goes from a hidden node to the record behind it, if that is a node with the same nearest
  onwards_reaches : (k j : ℕ) → reach t (onwards vis) k j ↔ ((¬ Seen k) × (j ≡ suc k) × Beside t Seen k j)
  unfolding reach onwards
  onwards_reaches k j = (λ (m, (e, v), r). there v (rw e r), λ (h, e, b). back h e b)
    where
      there : ¬ holds t vis k → reach t (either (then child (no previous)) (then (no child) (skip vis))) k j
          → (¬ Seen k) × (j ≡ suc k) × Beside t Seen k j
      there v (inl r) =
          let (e, c) = (first_reaches k j).0 r in
          let h = (Iff.not (right k (child_node t o c))).0 v in
          let (p, x) = nearest_exists o dec root k (pos_of_ne-zero (λ z. h (rw z root))) (child_node t o c) in
          (h, e, record { above = p; left = x; right = beyond c h x })
      there v (inr r) =
          let (none, e, b) = (leaf_reaches k j).0 r in
          ((Iff.not (right k (nearest_node b.left))).0 v, e, b)

      back : ¬ Seen k → j ≡ suc k → Beside t Seen k j → reach t (onwards vis) k j
      back h e b =
          let l = nearest_node b.left in
          let v = (Iff.not (right k l)).1 h in
          (k, (refl, v), ⊎_map (λ c. (first_reaches k j).1 (e, rw e c)) (λ (f, none). (leaf_reaches k j).1 (none, e, b)) (child_or_end t o k l))

  -- many times `onwards`: over hidden nodes, with the same nearest
  walked : {i k j : ℕ} → Beside t Seen i k → Star (reach t (onwards vis)) k j → (k ≤ j) × Beside t Seen i j × Unseen Seen k j
  walked b stop = (le_refl _, b, unseen_none Seen _)
  walked b (step r more) =
      let (h, e, c) = (onwards_reaches _ _).0 r in
      let (far, d, g) = walked (beside_trans b c) more in
      (omega arith, d, unseen_join Seen (unseen_one Seen h) (rw e at g))

  -- and there is such a way, d nodes long, to the next visible node with the nearest of i
  walking : {i j : ℕ} → NextSeen t Seen i j → (d m : ℕ) → m + d ≡ j → end t i ≤ m → Unseen Seen (end t i) m → Star (reach t (onwards vis)) m j
  walking {i} {j} n zero m e a h =
      let same : j ≡ m = omega arith in
      rw same stop
  walking {i} {j} n (suc d) m e a h =
      let behind = end_behind t o i (nearest_node n.left) in
      let x = nearest_behind o dec root n.left n.right a (omega arith) h in
      let v : ¬ Seen m = λ s. n.between m (omega arith) (omega arith) s x in
      let g = unseen_join Seen h (unseen_one Seen v) in
      let y = nearest_behind o dec root n.left n.right (omega arith) (omega arith) g in
      let on = (onwards_reaches m (suc m)).1 (v, refl, record { above = n.above; left = x; right = y }) in
      step on (walking n d (suc m) (omega arith) (omega arith) g)

  -- the next sibling in the view
  pub forwards_reaches : {i j : ℕ} → i < length t → Seen i → reach t (forwards vis) i j ↔ NextSeen t Seen i j
  unfolding reach forwards
  forwards_reaches {i} {j} l s = (there, back)
    where
      there : reach t (forwards vis) i j → NextSeen t Seen i j
      there (k, r, (m, more, (e, v))) =
          let (f, c) = (skip_reaches i k).0 r in
          let (far, b, h) = walked c (rw e at more) in
          let behind = end_behind t o i l in
          let node = nearest_node b.right in
          record {
            above = b.above;
            left = b.left;
            right = b.right;
            order = omega arith;
            node = node;
            visible = (right j node).0 (rw e at v);
            between = λ n u w z y. h n (rw f (nearest_outside o s u b.left y)) w z;
          }

      back : NextSeen t Seen i j → reach t (forwards vis) i j
      back n =
          let far = nearest_outside o s n.order n.left n.right in
          let x = nearest_behind o dec root n.left n.right (le_refl _) far (unseen_none Seen _) in
          let r = (skip_reaches i (end t i)).1 (refl, record { above = n.above; left = n.left; right = x }) in
          let more = walking n (j - end t i) (end t i) (omega arith) (le_refl _) (unseen_none Seen _) in
          (end t i, r, (j, more, (refl, (right j n.node).1 n.visible)))
