-- A function that computes who is visible, and the law that it agrees with `Visible`. Assumes nothing.
use Prim.Native.Nat.{ℕ, zero, suc, ◌≤◌, ◌<◌}
use native.Mathlib.Omega.{arith}
use native.Mathlib.Nat.{eq-or-lt_of_le, le_refl}
use native.Mathlib.Decide.{dec_lt}
use mathlib.Core.Path.{◌≡◌, refl, sym, ◌∙◌, subst}
use mathlib.Core.Logic.{◌↔◌, ◌⊎◌, inl, inr, ⊎_elim}
use mathlib.Core.Bool.{Bool, true, false, ◌&&◌, ◌||◌}
use mathlib.Core.List.Memᴰ
use mathlib.Core.List.{List, [], ◌∷◌, ◌++◌}
use lib.Dec.{T, eqb}
use lib.ListN.{length, get_or, length-append, get_or-append}
use lib.Seq.{get_or_at}
use Rattle.tree.specs.Tree.{Tree, label_at, parent_at, Child, InOrder}
use Rattle.tree.proofs.Tests.{Decides, passes, equal_test, and_test, or_test, same_test, decided}
use Rattle.tree.proofs.Order.{parent_smaller}
use Rattle.query.specs.Syntax.{Filter}
use Rattle.query.specs.Meaning.{holds}
use Rattle.query.proofs.Deciding.{test, test_right}
use Rattle.view.specs.Annotation.{Rule}
use Rattle.view.specs.Visible.{Ruled, Visible, root, shown, inherits}

-- the pair has a record whose filter passes
unfoldable pub some_rule : (Filter → Bool) → List Rule → ℕ → ℕ → Bool
some_rule pass [] p c = false
some_rule pass (r ∷ more) p c = (eqb r.parent p && (eqb r.child c && pass r.filter)) || some_rule pass more p c

some_rule_lem : (pass : Filter → Bool) (rules : List Rule) (p c : ℕ) → Decides (some_rule pass rules p c) ((f : Filter) × Ruled rules p c f × T (pass f))
unfolding some_rule
some_rule_lem pass [] p c = record { exact = (λ x. absurd x, λ x. absurd (Memᴰ.not-nil x.1)) }
some_rule_lem pass (r ∷ more) p c =
    same_test
    (or_test (and_test (equal_test r.parent p) (and_test (equal_test r.child c) (passes (pass r.filter)))) (some_rule_lem pass more p c))
    (λ x. ⊎_elim this (λ y. (y.0, Memᴰ.tail y.1, y.2)) x, λ x. ⊎_elim (λ e. inl (that x e)) (λ m. inr (x.0, m, x.2)) (Memᴰ.cases_cons x.1))
  where
    this : (r.parent ≡ p) × ((r.child ≡ c) × T (pass r.filter)) → (f : Filter) × Ruled (r ∷ more) p c f × T (pass f)
    this (e, (e', h)) = (r.filter, Memᴰ.head (λ i. record { parent = sym e i; child = sym e' i; filter = r.filter }), h)

    that : (x : (f : Filter) × Ruled (r ∷ more) p c f × T (pass f)) → ◌≡◌ {A = Rule} (record { parent = p; child = c; filter = x.0 }) r → (r.parent ≡ p) × ((r.child ≡ c) × T (pass r.filter))
    that x e = (λ i. (sym e i).parent, (λ i. (sym e i).child, subst (λ (y : Filter). T (pass y)) (λ i. (e i).filter) x.2))

module _ (t : Tree) (rules : List Rule) where
  -- whether record i is visible, given who is visible before it
  unfoldable pub seen_next : List Bool → ℕ → Bool
  seen_next before zero = true
  seen_next before (suc i) =
      let p : ℕ = parent_at t (suc i) in
      elim (some_rule (λ f. true) rules (label_at t p) (label_at t (suc i))) [
        | true ↦ some_rule (λ f. test t f (suc i)) rules (label_at t p) (label_at t (suc i))
        | false ↦ get_or before p false
      ]

  -- who is visible, for the first n records
  unfoldable pub seen_up_to : ℕ → List Bool
  seen_up_to zero = []
  seen_up_to (suc n) =
      let before : List Bool = seen_up_to n in
      before ++ (seen_next before n ∷ [])

  -- who is visible
  unfoldable pub seen : List Bool
  unfolding seen_up_to seen_next some_rule test
  seen = seen_up_to (length t)

  length_seen : (n : ℕ) → length (seen_up_to n) ≡ n
  unfolding seen_up_to
  length_seen zero = refl
  length_seen (suc n) = omega (arith, length-append (seen_up_to n) (seen_next (seen_up_to n) n ∷ []), length_seen n)

  seen_at : (n i : ℕ) → i < n → get_or (seen_up_to n) i false ≡ seen_next (seen_up_to i) i
  unfolding seen_up_to
  seen_at zero i l = absurd (omega arith)
  seen_at (suc n) i l = ⊎_elim last (λ k. get_or-append (seen_up_to n) (seen_next (seen_up_to n) n ∷ []) false i (omega (arith, length_seen n)) ∙ seen_at n i k) (eq-or-lt_of_le le)
    where
      le : i ≤ n
      le = omega arith

      last : i ≡ n → get_or (seen_up_to n ++ (seen_next (seen_up_to n) n ∷ [])) i false ≡ seen_next (seen_up_to i) i
      last e =
          subst (λ (k : ℕ). get_or (seen_up_to n ++ (seen_next (seen_up_to n) n ∷ [])) k false ≡ seen_next (seen_up_to k) k) (sym e)
          (get_or_at (seen_up_to n) (seen_next (seen_up_to n) n) [] false n (length_seen n))

  -- a visible record behind the root has a record of the annotation whose filter holds, or none and a visible parent
  pub visible_cases : {i : ℕ} → 0 < i → Visible t rules i
      → ((f : Filter) × Ruled rules (label_at t (parent_at t i)) (label_at t i) f × holds t f i)
      ⊎ (((f : Filter) → ¬ Ruled rules (label_at t (parent_at t i)) (label_at t i) f) × Visible t rules (parent_at t i))
  visible_cases z root = absurd (omega arith)
  visible_cases z (shown {i = i} {f = f} c r h) = inl (f, subst (λ (x : ℕ). Ruled rules (label_at t x) (label_at t i) f) (sym c.parent) r, h)
  visible_cases z (inherits {i = i} c n v) =
      inr (subst (λ (x : ℕ). ((f : Filter) → ¬ Ruled rules (label_at t x) (label_at t i) f) × Visible t rules x) (sym c.parent) (n, v))

  module _ (o : InOrder t) where
    -- a record is seen exactly if it is visible, where that holds of its parent
    seen_step : (i : ℕ) → suc i < length t → T (get_or (seen_up_to (suc i)) (parent_at t (suc i)) false) ↔ Visible t rules (parent_at t (suc i))
        → T (seen_next (seen_up_to (suc i)) (suc i)) ↔ Visible t rules (suc i)
    unfolding seen_next
    seen_step i l parent = go (some_rule (λ f. true) rules (label_at t p) (label_at t (suc i))) refl
      where
        p : ℕ
        p = parent_at t (suc i)

        child : Child t p (suc i)
        child = record { later = omega arith; node = l; parent = refl }

        covered : Bool
        covered = some_rule (λ f. true) rules (label_at t p) (label_at t (suc i))

        passed : Bool
        passed = some_rule (λ f. test t f (suc i)) rules (label_at t p) (label_at t (suc i))

        passes_rule : T passed ↔ ((f : Filter) × Ruled rules (label_at t p) (label_at t (suc i)) f × T (test t f (suc i)))
        passes_rule = (some_rule_lem (λ f. test t f (suc i)) rules (label_at t p) (label_at t (suc i))).exact

        covers : T covered ↔ ((f : Filter) × Ruled rules (label_at t p) (label_at t (suc i)) f × Unit {0})
        covers = (some_rule_lem (λ f. true) rules (label_at t p) (label_at t (suc i))).exact

        go : (b : Bool) → covered ≡ b → T (elim b [ true ↦ passed | false ↦ get_or (seen_up_to (suc i)) p false ]) ↔ Visible t rules (suc i)
        go true e = (
          λ x. let (f, r, h) = passes_rule.0 x in shown child r ((test_right t o f (suc i) l).0 h),
          λ v.
              ⊎_elim
              (λ y. passes_rule.1 (y.0, y.1, (test_right t o y.0 (suc i) l).1 y.2))
              (λ y. let (f, r, u) = covers.0 (subst T (sym e) tt) in absurd (y.0 f r))
              (visible_cases (omega arith) v),
        )
        go false e = (
          λ x. inherits child (λ f r. subst T e (covers.1 (f, r, tt))) (parent.0 x),
          λ v. ⊎_elim (λ y. absurd (subst T e (covers.1 (y.0, y.1, tt)))) (λ y. parent.1 y.1) (visible_cases (omega arith) v),
        )

    seen_below : (n i : ℕ) → i ≤ n → i < length t → T (seen_next (seen_up_to i) i) ↔ Visible t rules i
    unfolding seen_next
    seen_below zero zero b l = (λ x. root, λ v. tt)
    seen_below zero (suc i) b l = absurd (omega arith)
    seen_below (suc n) zero b l = (λ x. root, λ v. tt)
    seen_below (suc n) (suc i) b l =
        let s : parent_at t (suc i) < suc i = parent_smaller t o (suc i) (omega arith) l in
        seen_step i l
        (subst (λ (x : Bool). T x ↔ Visible t rules (parent_at t (suc i))) (sym (seen_at (suc i) (parent_at t (suc i)) s))
        (seen_below n (parent_at t (suc i)) (omega arith) (omega arith)))

    -- the flags tell who is visible
    pub seen_right : (i : ℕ) → i < length t → T (get_or seen i false) ↔ Visible t rules i
    unfolding seen
    seen_right i l = subst (λ (x : Bool). T x ↔ Visible t rules i) (sym (seen_at (length t) i l)) (seen_below i i (le_refl i) l)

    -- a visible record is one of the tree's
    pub visible_node : 0 < length t → {i : ℕ} → Visible t rules i → i < length t
    visible_node some root = some
    visible_node some (shown c r h) = c.node
    visible_node some (inherits c n v) = c.node

    -- a record is visible or it is not
    pub dec_visible : 0 < length t → (i : ℕ) → Dec (Visible t rules i)
    dec_visible some i = go (dec_lt i (length t))
      where
        go : Dec (i < length t) → Dec (Visible t rules i)
        go (yes l) = decided {b = get_or seen i false} (record { exact = seen_right i l })
        go (no n) = no (λ v. n (visible_node some v))

-- "With no records, everything is visible."
pub all_visible : (t : Tree) (o : InOrder t) (n i : ℕ) → i < n → i < length t → Visible t [] i
all_visible t o zero i k l = absurd (omega arith)
all_visible t o (suc n) zero k l = root
all_visible t o (suc n) (suc i) k l =
    let s : parent_at t (suc i) < suc i = parent_smaller t o (suc i) (omega arith) l in
    let child : Child t (parent_at t (suc i)) (suc i) = record { later = omega arith; node = l; parent = refl } in
    inherits child (λ f r. Memᴰ.not-nil r) (all_visible t o n (parent_at t (suc i)) (omega arith) (omega arith))
