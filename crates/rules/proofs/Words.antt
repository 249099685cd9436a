-- The word of a node, record by record, and that it has the labels of the node's children, in order. Assumes nothing.
use Prim.Native.Nat.{ℕ, zero, suc, ◌-◌, ◌≤◌, ◌<◌}
use native.Mathlib.Decide.{dec_lt, ℕ_discrete}
use native.Mathlib.Omega.{arith}
use mathlib.Core.Path.{◌≡◌, refl, sym, ap, ◌∙◌}
use mathlib.Core.Logic.Iff
use mathlib.Core.Logic.{◌↔◌, ◌⊎◌, inl, inr, ⊎_elim, ⊎_map}
use mathlib.Core.List.Memᴰ
use mathlib.Core.List.{List, [], ◌∷◌, ◌++◌, append-nil, map, map-append, Memᴰ}
use borrow.Author.Tests.{eq-eqb, ne_eqb}
use lib.ListN.{length, get_or, take, length-append, get_or-append}
use lib.Seq.{take-suc, take_all, take-length, get_or_at, length-take-le}
use Rattle.tree.specs.Tree.{Node, Tree, label_at, parent_at, Child}
use Rattle.tree.proofs.Order.{dec_child}
use Rattle.rules.specs.Language.{Word}
use Rattle.rules.specs.Rules.{labels_under, word}

-- a record under the node adds its label
under_child : {i : ℕ} (n : Node) (s : Tree) → n.parent ≡ i → labels_under i (n ∷ s) ≡ n.label ∷ labels_under i s
unfolding labels_under
under_child n s e = rw (eq-eqb n.parent _ e, labels_under)

-- any other adds nothing
under_other : {i : ℕ} (n : Node) (s : Tree) → ¬ (n.parent ≡ i) → labels_under i (n ∷ s) ≡ labels_under i s
unfolding labels_under
under_other n s h = rw (ne_eqb n.parent _ h, labels_under)

-- records behind others add their labels behind theirs
under_append : (i : ℕ) (s u : Tree) → labels_under i (s ++ u) ≡ labels_under i s ++ labels_under i u
unfolding labels_under
under_append i [] u = refl
under_append i (n ∷ s) u =
    elim (ℕ_discrete n.parent i) [
      | yes e ↦ rw (under_child n (s ++ u) e, under_child n s e) (ap (λ (w : Word). n.label ∷ w) (under_append i s u))
      | no h ↦ rw (under_other n (s ++ u) h, under_other n s h) (under_append i s u)
    ]

-- no more labels than records
under_few : (i : ℕ) (s : Tree) → length (labels_under i s) ≤ length s
unfolding labels_under
under_few i [] = omega arith
under_few i (n ∷ s) =
    let few = under_few i s in
    elim (ℕ_discrete n.parent i) [
      | yes e ↦ rw (under_child n s e) (omega arith)
      | no h ↦ rw (under_other n s h) (omega arith)
    ]

-- a word has fewer labels than there are records, since the root is nobody's child
pub word_few : (t : Tree) (i : ℕ) → length (word t i) ≤ length t - 1
unfolding word
word_few [] i = omega arith
word_few (root ∷ more) i = omega (arith, under_few i more)

-- records behind others add to the word what stands under the node
word_append : (s u : Tree) (i : ℕ) → 0 < length s → word (s ++ u) i ≡ word s i ++ labels_under i u
unfolding word
word_append [] u i some = absurd (omega arith)
word_append (root ∷ s) u i some = under_append i s u

-- the root adds nothing
word_root : (t : Tree) (i : ℕ) → word (take 1 t) i ≡ []
unfolding word labels_under
word_root [] i = refl
word_root (root ∷ more) i = refl

module _ (t : Tree) (i : ℕ) where
  -- the word of the records below n
  abbrev pub word_below : ℕ → Word
  word_below n = word (take n t) i

  -- a record that is not the root adds its label or nothing
  record_adds : (j : ℕ) (d : Node) → 0 < j → j < length t → word_below (suc j) ≡ word_below j ++ labels_under i (get_or t j d ∷ [])
  record_adds j d later node =
      let size = length-take-le j t (omega arith) in
      ap (λ (s : Tree). word s i) (take-suc t j d node) ∙ word_append (take j t) _ i (omega arith)

  -- a child adds its label to the word of the records before it
  pub child_adds : {j : ℕ} → Child t i j → word_below (suc j) ≡ word_below j ++ label_at t j ∷ []
  unfolding label_at parent_at labels_under
  child_adds {j} c = record_adds j _ c.later c.node ∙ ap (λ (w : Word). word_below j ++ w) (under_child _ [] c.parent)

  -- any other record adds nothing
  pub other_adds_nothing : (j : ℕ) → ¬ Child t i j → word_below (suc j) ≡ word_below j
  unfolding word parent_at labels_under
  other_adds_nothing zero none = word_root t i
  other_adds_nothing (suc j) none =
      elim (dec_lt (suc j) (length t)) [
        | yes l ↦
            let not_under : ¬ (parent_at t (suc j) ≡ i) = λ e. none (record { later = omega arith; node = l; parent = e }) in
            record_adds (suc j) _ (omega arith) l
            ∙ ap (λ (w : Word). word_below (suc j) ++ w) (under_other _ [] not_under) ∙ append-nil (word_below (suc j))
        | no h ↦ ap (λ (s : Tree). word s i) (take_all (suc (suc j)) t (omega arith) ∙ sym (take_all (suc j) t (omega arith)))
      ]

-- A list has exactly the numbers with a property, strictly ascending.
pub record Ascending (P : ℕ → Type 0) (js : List ℕ) : Type 0 where
  pub exact : (j : ℕ) → Memᴰ j js ↔ P j
  pub up : (a b : ℕ) → a < b → b < length js → get_or js a 0 < get_or js b 0

-- what stands in a list is in it
at_member : (js : List ℕ) (a : ℕ) → a < length js → Memᴰ (get_or js a 0) js
at_member [] a l = absurd (omega arith)
at_member (j ∷ js) zero l = Memᴰ.head refl
at_member (j ∷ js) (suc a) l = Memᴰ.tail (at_member js a (omega arith))

ascending_same : {P Q : ℕ → Type 0} {js : List ℕ} → ((j : ℕ) → P j ↔ Q j) → Ascending P js → Ascending Q js
ascending_same same ascending = record { exact = λ j. Iff.trans (ascending.exact j) (same j); up = ascending.up }

-- a number above all of a list comes behind it
ascending_more : {P : ℕ → Type 0} {js : List ℕ} {n : ℕ} → Ascending P js → ((j : ℕ) → P j → j < n)
    → Ascending (λ j. P j ⊎ (j ≡ n)) (js ++ n ∷ [])
ascending_more {js = js} {n} before below = record {
  exact = λ j. (
    λ m. ⊎_map (before.exact j).0 Memᴰ.eq_of_singleton (Memᴰ.append_cases js m),
    ⊎_elim (λ p. Memᴰ.append_left _ ((before.exact j).1 p)) (λ e. Memᴰ.append_right js (Memᴰ.head e)),
  );
  up = λ a b l h.
      let size = length-append js (n ∷ []) in
      let first : a < length js = omega arith in
      rw (get_or-append js (n ∷ []) 0 a first)
      (elim (dec_lt b (length js)) [
        | yes k ↦ rw (get_or-append js (n ∷ []) 0 b k) (before.up a b l k)
        | no k ↦ rw (get_or_at js n [] 0 b (omega arith)) (below (get_or js a 0) ((before.exact _).0 (at_member js a first)))
      ]);
}

module _ (t : Tree) (i : ℕ) where
  -- the children below n, and the word of the records below n
  children_below : (n : ℕ) → (js : List ℕ) × Ascending (λ j. Child t i j × (j < n)) js × (map (label_at t) js ≡ word_below t i n)
  unfolding word
  children_below zero = (
    [],
    record {
      exact = λ j. (λ m. absurd (Memᴰ.not-nil m), λ (c, l). absurd (omega arith));
      up = λ a b l h. absurd (omega arith);
    },
    refl,
  )
  children_below (suc n) =
      let (js, ascending, labels) = children_below n in
      elim (dec_child t i n) [
        | yes c ↦ (
          js ++ n ∷ [],
          ascending_same (λ j. (
            ⊎_elim (λ (d, l). (d, omega arith)) (λ e. (rw e c, omega arith)),
            λ (d, l).
                elim (dec_lt j n) [
                  | yes k ↦ inl (d, k)
                  | no k ↦ inr (omega arith)
                ],
          )) (ascending_more ascending (λ j h. h.1)),
          map-append (label_at t) js (n ∷ []) ∙ rw labels (sym (child_adds t i c)),
        )
        | no h ↦ (
          js,
          ascending_same (λ j. (
            λ (d, l). (d, omega arith),
            λ (d, l).
                let other : ¬ (j ≡ n) = λ e. h (rw e at d) in
                (d, omega arith),
          )) ascending,
          labels ∙ sym (other_adds_nothing t i n h),
        )
      ]

  -- The word of a node: there is a list of record numbers, exactly its children, strictly ascending, whose labels in this order are it.
  pub word_children : (js : List ℕ) × Ascending (Child t i) js × (map (label_at t) js ≡ word t i)
  word_children =
      let (js, ascending, labels) = children_below (length t) in
      (js, ascending_same (λ j. (λ (c, l). c, λ c. (c, c.node))) ascending, rw (take-length t) at labels)
