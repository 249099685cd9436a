-- A function that cuts out the view of a tree, given who is visible, and the law that it agrees with `View`. Assumes nothing.
use Prim.Native.Nat.{ℕ, zero, suc, ◌≤◌, ◌<◌}
use native.Mathlib.Omega.{arith}
use native.Mathlib.Nat.{eq-or-lt_of_le, le_refl}
use mathlib.Core.Path.{◌≡◌, refl, sym, ap, ◌∙◌, subst}
use mathlib.Core.Logic.{◌↔◌, ⊎_elim}
use mathlib.Core.Bool.{Bool, true, false}
use mathlib.Core.List.{List, [], ◌∷◌, ◌++◌}
use lib.Dec.{T}
use lib.ListN.{length, get_or, length-append, get_or-append}
use lib.Seq.{get_or_at}
use Rattle.tree.specs.Tree.{Node, Tree, label_at, parent_at, Child, InOrder}
use Rattle.tree.proofs.Order.{parent_smaller}
use Rattle.roll.specs.Roll.{none}
use Rattle.view.specs.View.{Before, start, seen, hidden, Position, Nearest, parent, beyond, View}
use Rattle.view.proofs.Positions.{before_unique, before_counts}
use Rattle.view.proofs.Nearest.{nearest_unique, nearest_node, nearest_less}

-- one more, or one node more, where a flag is set
abbrev one_more : Bool → ℕ → ℕ
one_more true n = suc n
one_more false n = n

abbrev keep : Bool → Tree → Node → Tree
keep true v n = v ++ (n ∷ [])
keep false v n = v

length_keep : (b : Bool) (v : Tree) (n : Node) → length (keep b v n) ≡ one_more b (length v)
length_keep true v n = omega (arith, length-append v (n ∷ []))
length_keep false v n = refl

module _ (t : Tree) (flags : List Bool) where
  -- how many visible records stand before record i
  unfoldable pub rank : ℕ → ℕ
  rank zero = 0
  rank (suc i) = one_more (get_or flags i false) (rank i)

  -- the nearest visible proper ancestor of i, at most n + 1 steps up
  unfoldable pub climb : ℕ → ℕ → ℕ
  climb zero i = parent_at t i
  climb (suc n) i = elim (get_or flags (parent_at t i) false) [ true ↦ parent_at t i | false ↦ climb n (parent_at t i) ]

  unfoldable pub parent_in_view : ℕ → ℕ
  parent_in_view zero = none
  parent_in_view (suc i) = rank (climb i (suc i))

  unfoldable pub node_in_view : ℕ → Node
  node_in_view i = record { label = label_at t i; parent = parent_in_view i }

  -- the view of the first n records
  unfoldable pub cut : ℕ → Tree
  cut zero = []
  cut (suc n) = keep (get_or flags n false) (cut n) (node_in_view n)

  length_cut : (n : ℕ) → length (cut n) ≡ rank n
  unfolding cut rank
  length_cut zero = refl
  length_cut (suc n) = length_keep (get_or flags n false) (cut n) (node_in_view n) ∙ ap (one_more (get_or flags n false)) (length_cut n)

  module _ (o : InOrder t) (Seen : ℕ → Type 0) (right : (i : ℕ) → i < length t → T (get_or flags i false) ↔ Seen i) where
    rank_right : (i : ℕ) → i ≤ length t → Before Seen i (rank i)
    unfolding rank
    rank_right zero l = start
    rank_right (suc i) l = go (rank_right i (omega arith)) (get_or flags i false) refl
      where
        go : Before Seen i (rank i) → (b : Bool) → get_or flags i false ≡ b → Before Seen (suc i) (one_more b (rank i))
        go before true e = seen ((right i l).0 (subst T (sym e) tt)) before
        go before false e = hidden (λ s. subst T e ((right i l).1 s)) before

    climb_right : Seen 0 → (n i : ℕ) → 0 < i → i ≤ suc n → i < length t → Nearest t Seen i (climb n i)
    unfolding climb
    climb_right z zero i p b l =
        let s : parent_at t i < i = parent_smaller t o i p l in
        let top : 0 ≡ parent_at t i = omega arith in
        parent (record { later = p; node = l; parent = refl }) (subst Seen top z)
    climb_right z (suc n) i p b l = go (climb_right z n (parent_at t i)) (get_or flags (parent_at t i) false) refl
      where
        smaller : parent_at t i < i
        smaller = parent_smaller t o i p l

        child : Child t (parent_at t i) i
        child = record { later = p; node = l; parent = refl }

        tells : T (get_or flags (parent_at t i) false) ↔ Seen (parent_at t i)
        tells = right (parent_at t i) (omega (arith, smaller))

        go : (0 < parent_at t i → parent_at t i ≤ suc n → parent_at t i < length t → Nearest t Seen (parent_at t i) (climb n (parent_at t i)))
            → (b : Bool) → get_or flags (parent_at t i) false ≡ b → Nearest t Seen i (elim b [ true ↦ parent_at t i | false ↦ climb n (parent_at t i) ])
        go rest true e = parent child (tells.0 (subst T (sym e) tt))
        go rest false e =
            let out : ¬ Seen (parent_at t i) = λ s. subst T e (tells.1 s) in
            let later : ¬ (0 ≡ parent_at t i) = λ top. out (subst Seen top z) in
            beyond child out (rest (omega (arith, smaller)) (omega (arith, smaller)) (omega (arith, smaller)))

    -- what stands at the position of a visible record
    cut_at : (n i : ℕ) → n ≤ length t → i < n → Seen i → (d : Node) → get_or (cut n) (rank i) d ≡ node_in_view i
    unfolding cut
    cut_at zero i b l s d = absurd (omega arith)
    cut_at (suc n) i b l s d = ⊎_elim last (λ k. earlier k (cut_at n i (omega arith) k s d) (get_or flags n false)) (eq-or-lt_of_le le)
      where
        le : i ≤ n
        le = omega arith

        last : i ≡ n → get_or (keep (get_or flags n false) (cut n) (node_in_view n)) (rank i) d ≡ node_in_view i
        last e =
            subst (λ (k : ℕ). get_or (keep (get_or flags n false) (cut n) (node_in_view n)) (rank k) d ≡ node_in_view k) (sym e)
            (kept (get_or flags n false) ((right n b).1 (subst Seen e s)))
          where
            kept : (f : Bool) → T f → get_or (keep f (cut n) (node_in_view n)) (rank n) d ≡ node_in_view n
            kept true h = get_or_at (cut n) (node_in_view n) [] d (rank n) (length_cut n)
            kept false h = absurd h

        earlier : i < n → get_or (cut n) (rank i) d ≡ node_in_view i → (f : Bool) → get_or (keep f (cut n) (node_in_view n)) (rank i) d ≡ node_in_view i
        earlier k h true =
            let fits : rank i < rank n = before_counts k (record { visible = s; before = rank_right i (omega arith) }) (rank_right n (omega arith)) in
            get_or-append (cut n) (node_in_view n ∷ []) d (rank i) (omega (arith, length_cut n)) ∙ h
        earlier k h false = h

    ranked : {i k : ℕ} → i < length t → Position Seen i k → rank i ≡ k
    ranked {i} l at = before_unique (rank_right i (omega arith)) at.before

    at_position : {i k : ℕ} → i < length t → Position Seen i k → (d : Node) → get_or (cut (length t)) k d ≡ node_in_view i
    at_position {i} l at d =
        subst (λ (x : ℕ). get_or (cut (length t)) x d ≡ node_in_view i) (ranked l at) (cut_at (length t) i (le_refl (length t)) l at.visible d)

    parent_at_lem : Seen 0 → {i p q : ℕ} → i < length t → 0 < i → Nearest t Seen i p → Position Seen p q → parent_in_view i ≡ q
    unfolding parent_in_view
    parent_at_lem z {i = zero} l later near above = absurd (omega arith)
    parent_at_lem z {i = suc i} {p = p} l later near above =
        let same : climb i (suc i) ≡ p = nearest_unique (climb_right z i (suc i) later (le_refl (suc i)) l) near in
        ap rank same ∙ ranked (omega (arith, nearest_less o near)) above

    -- the function cuts out the view
    pub cut_right : Seen 0 → 0 < length t → View t Seen (cut (length t))
    unfolding label_at parent_at node_in_view parent_in_view
    cut_right z some =
        record {
          size = subst (λ (n : ℕ). Before Seen (length t) n) (sym (length_cut (length t))) (rank_right (length t) (le_refl (length t)));
          label = λ l at. ap (λ (n : Node). n.label) (at_position l at _);
          root = ap (λ (n : Node). n.parent) (at_position some (record { visible = z; before = start }) _);
          parent = λ {i} {k} {p} {q} at near above.
              ap (λ (n : Node). n.parent) (at_position (nearest_node near) at _) ∙ parent_at_lem z (nearest_node near) (omega (arith, nearest_less o near)) near above;
        }
