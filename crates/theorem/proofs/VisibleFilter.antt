-- The filter that tells who is visible, made from annotation records and their filters as syntax, and that it holds at the visible nodes.
-- The annotation's own filters stay as they are: they speak of the whole roll. Assumes nothing.
use Prim.Native.Nat.{ℕ, zero, suc, ◌<◌}
use native.Mathlib.Omega.{arith}
use mathlib.Core.Path.{◌≡◌, refl, sym, ◌∙◌, subst}
use mathlib.Core.Logic.{◌↔◌, inl, inr, ⊎_elim}
use mathlib.Core.List.Memᴰ
use mathlib.Core.List.{List, [], ◌∷◌, Memᴰ}
use lib.ListN.{length}
use Rattle.tree.specs.Tree.{Tree, label_at, parent_at, Child, InOrder}
use Rattle.tree.proofs.Order.{child_node}
use Rattle.query.specs.Syntax.{Path, parent, stay, then, star}
use Rattle.query.specs.Syntax.{Filter, labelled, leads, never, not, and, or}
use Rattle.query.specs.Meaning.{Star, stop, step, reach, holds}
use Rattle.view.specs.Annotation.{Rule}
use Rattle.view.specs.Visible.{Ruled, Visible, root, shown, inherits}

-- a filter for each record, one of which holds
unfoldable pub some_of : (Rule → Filter) → List Rule → Filter
some_of each [] = never
some_of each (r ∷ more) = or (each r) (some_of each more)

-- the node's pair (parent's label, own label) is the record's
unfoldable pub pair_of : Rule → Filter
pair_of r = and (labelled r.child) (leads (then parent (stay (labelled r.parent))))

-- the record is the node's, and its filter holds
unfoldable pub showing : Rule → Filter
showing r = and (pair_of r) r.filter

-- ([!dom]/^)*/[!^ + eval]: up, past nodes whose pair has no record, to the root or to a node that a record shows
unfoldable pub climbing : List Rule → Path
climbing rules = then (star (then (stay (not (some_of pair_of rules))) parent)) (stay (or (not (leads parent)) (some_of showing rules)))

unfoldable pub visible_by : List Rule → Filter
visible_by rules = leads (climbing rules)

module _ (t : Tree) where
  pub some_of_lem : (each : Rule → Filter) (rules : List Rule) (i : ℕ) → holds t (some_of each rules) i ↔ ((r : Rule) × Memᴰ r rules × holds t (each r) i)
  unfolding some_of holds
  some_of_lem each [] i = (λ x. absurd x, λ x. absurd (Memᴰ.not-nil x.1))
  some_of_lem each (r ∷ more) i =
      let rest = some_of_lem each more i in (
        λ x. ⊎_elim (λ h. (r, Memᴰ.head refl, h)) (λ h. let y = rest.0 h in (y.0, Memᴰ.tail y.1, y.2)) x,
        λ x. ⊎_elim (λ e. inl (subst (λ (s : Rule). holds t (each s) i) e x.2)) (λ m. inr (rest.1 (x.0, m, x.2))) (Memᴰ.cases_cons x.1),
      )

  -- a record that is the node's own, as one of the rules for the node's pair
  pub own : {rules : List Rule} {p i : ℕ} (r : Rule) → Child t p i → Memᴰ r rules → holds t (pair_of r) i → Ruled rules (label_at t p) (label_at t i) r.filter
  unfolding pair_of holds
  own {p = p} r c m h =
      let above : h.1.1.0 ≡ p = sym h.1.1.1.parent ∙ c.parent in
      let labels : label_at t p ≡ r.parent = subst (λ (q : ℕ). label_at t q ≡ r.parent) above h.1.1.2.1 in
      Memᴰ.cast (λ k. record { parent = labels k; child = h.0 k; filter = r.filter }) m

  pub owned : {rules : List Rule} {p i : ℕ} {f : Filter} → Child t p i → Ruled rules (label_at t p) (label_at t i) f → holds t (pair_of (record { parent = label_at t p; child = label_at t i; filter = f })) i
  unfolding pair_of holds
  owned {p = p} c m = (refl, (p, (p, c, (refl, refl))))

  pub visible_shown : {rules : List Rule} {i : ℕ} → Visible t rules i → holds t (visible_by rules) i
  unfolding visible_by climbing showing holds
  visible_shown root = (0, (0, stop, (refl, inl (λ x. absurd (omega (arith, x.1.later))))))
  visible_shown {rules} (shown {i = i} {f = f} c r h) = (i, (i, stop, (refl, inr ((some_of_lem showing rules i).1 (_, r, (owned c r, h))))))
  visible_shown {rules} (inherits {i = i} c n v) =
      let (j, (k, up, at)) = visible_shown v in
      let free : ¬ holds t (some_of pair_of rules) i = λ h. let (r, m, o) = (some_of_lem pair_of rules i).0 h in n r.filter (own r c m o) in
      (j, (k, step (i, (refl, free), c) up, at))

  -- a node is visible where it has no parent or a record shows it
  pub shown_here : (rules : List Rule) (i : ℕ) → i < length t → holds t (or (not (leads parent)) (some_of showing rules)) i → Visible t rules i
  unfolding showing holds
  shown_here rules zero l at = root
  shown_here rules (suc i) l at =
      let child : Child t (parent_at t (suc i)) (suc i) = record { later = omega arith; node = l; parent = refl } in
      ⊎_elim
      (λ none. absurd (none (parent_at t (suc i), child)))
      (λ s. let (r, m, h) = (some_of_lem showing rules (suc i)).0 s in shown child (own r child m h.0) h.1)
      at
