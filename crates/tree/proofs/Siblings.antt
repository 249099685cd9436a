-- Siblings in any tree, in document order or not: a node has one parent, at most one next and one previous sibling.
-- Assumes nothing.
use Prim.Native.Nat.{ℕ, zero, suc, ◌≤◌, ◌<◌}
use native.Mathlib.Nat.{le_refl, le_antisymm, eq-or-lt_of_le, le_of_suc-le-suc}
use native.Mathlib.Decide.{dec_le}
use native.Mathlib.Omega.{arith}
use mathlib.Core.Path.{◌≡◌, sym, ◌∙◌}
use mathlib.Core.Logic.{◌⊎◌, inl, inr, ⊎_map}
use Rattle.tree.specs.Tree.{Tree, Child, Next}
use Rattle.tree.proofs.Order.{dec_child}

module _ (t : Tree) where
  -- a node has one parent
  pub child_unique : {p q i : ℕ} → Child t p i → Child t q i → p ≡ q
  child_unique c d = sym c.parent ∙ d.parent

  -- a later sibling of i is the next one or behind it
  next_least : {i j p m : ℕ} → Next t i j → Child t p i → Child t p m → i < m → j ≤ m
  next_least {i} {j} {p} {m} n c d h =
      elim (dec_le j m) [
        | yes l ↦ l
        | no g ↦ absurd (n.between m h (omega arith) (rw (child_unique n.left c) d))
      ]

  -- a node has at most one next sibling
  pub next_unique : {i j j' : ℕ} → Next t i j → Next t i j' → j ≡ j'
  next_unique n n' =
      le_antisymm (next_least n n'.left n'.right n'.order) (next_least n' n.left n.right n.order)

  -- of two nodes whose next sibling is j, the second is no later than the first
  previous_greatest : {i i' j : ℕ} → Next t i j → Next t i' j → i' ≤ i
  previous_greatest {i} {i'} {j} n n' =
      elim (dec_le i' i) [
        | yes l ↦ l
        | no g ↦
            let e : n'.above ≡ n.above = child_unique n'.right n.right in
            let h : j ≤ i' = next_least n n.left (rw e at n'.left) (omega arith) in
            let l = n'.order in
            absurd (omega arith)
      ]

  -- a node has at most one previous sibling
  pub previous_unique : {i i' j : ℕ} → Next t i j → Next t i' j → i ≡ i'
  previous_unique n n' = le_antisymm (previous_greatest n' n) (previous_greatest n n')

  -- p has no child from a up to b
  abbrev Childless : ℕ → ℕ → ℕ → Type 0
  Childless p a b = (m : ℕ) → a ≤ m → m < b → ¬ Child t p m

  -- such a stretch grows by a record that is no child of p
  childless_step : {p a b : ℕ} → Childless p a b → ¬ Child t p b → Childless p a (suc b)
  childless_step {p} f h m g l =
      elim (eq-or-lt_of_le (le_of_suc-le-suc l)) [
        | inl e ↦ rw e h
        | inr k ↦ f m g k
      ]

  -- the last child of p before j, or that there is none
  last_before : (p j : ℕ) → ((i : ℕ) × Child t p i × (i < j) × Childless p (suc i) j) ⊎ Childless p 0 j
  last_before p zero = inr (λ m g l. absurd (omega arith))
  last_before p (suc j) =
      elim (dec_child t p j) [
        | yes c ↦ inl (j, c, le_refl (suc j), λ m g l. absurd (omega arith))
        | no h ↦
            ⊎_map (λ x. let (i, c, l, f) = x in (i, c, omega arith, childless_step f h))
            (λ f. childless_step f h) (last_before p j)
      ]

  -- a child has a previous sibling, or is the first child of its parent
  pub previous_or_first : {p j : ℕ} → Child t p j → ((i : ℕ) × Next t i j) ⊎ ((i : ℕ) → i < j → ¬ Child t p i)
  previous_or_first {p} {j} c =
      elim (last_before p j) [
        | inl x ↦
            inl (x.0, record { above = p; left = x.1; right = c; order = x.2; between = x.3 })
        | inr f ↦ inr (λ i l. f i (omega arith) l)
      ]
