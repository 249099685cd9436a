-- Ancestors in a tree in document order: parents are smaller, the ancestors of a node form a chain, a run has
-- no gap. Assumes nothing.
use Prim.Native.Nat.{ℕ, zero, suc, ◌≤◌, ◌<◌, zero-le}
use native.Mathlib.Nat.{le_refl, le_antisymm, zero-lt-suc}
use native.Mathlib.Decide.{dec_lt, ℕ_discrete, map_dec, le_ind}
use native.Mathlib.Omega.{arith}
use mathlib.Core.Path.{◌≡◌, refl}
use mathlib.Core.Logic.Dec
use lib.ListN.{length}
use Rattle.tree.specs.Tree.{Tree, parent_at, Child, Above, here, up, InOrder}

module _ (t : Tree) where
  -- what is above an ancestor is an ancestor
  pub above_trans : {a b c : ℕ} → Above t a b → Above t b c → Above t a c
  above_trans x here = x
  above_trans x (up z y) = up z (above_trans x y)

  -- the parent of a child is above it
  pub child_above : {p i : ℕ} → Child t p i → Above t p i
  child_above {p} {i} c = up c.later (rw c.parent here)

  -- a proper ancestor is above the parent
  pub above_up : {a i : ℕ} → Above t a i → ¬ (a ≡ i) → (0 < i) × Above t a (parent_at t i)
  above_up here n = absurd (n refl)
  above_up (up z x) n = (z, x)

  -- whether i is a child of p
  pub dec_child : (p i : ℕ) → Dec (Child t p i)
  dec_child p i =
      map_dec (λ h. record { later = h.0; node = h.1.0; parent = h.1.1 })
      (λ c. (c.later, (c.node, c.parent)))
      (Dec.and (dec_lt 0 i) (Dec.and (dec_lt i (length t)) (ℕ_discrete (parent_at t i) p)))

  -- the first n records are in document order
  abbrev pub InOrderTo : ℕ → Type 0
  InOrderTo n = (i : ℕ) → suc i < n → Above t (parent_at t (suc i)) i

module _ (t : Tree) (n : ℕ) (o : InOrderTo t n) where
  -- below m, an ancestor is no greater: by induction on m, since the parent of i + 1 is above i
  le_below : (m p i : ℕ) → i < m → i < n → Above t p i → p ≤ i
  le_below zero p i b l a = absurd (omega arith)
  le_below (suc m) p i b l here = le_refl i
  le_below (suc m) p zero b l (up z a) = absurd (omega arith)
  le_below (suc m) p (suc i) b l (up z a) =
      let h : parent_at t (suc i) ≤ i = le_below m (parent_at t (suc i)) i (omega arith) (omega arith) (o i l) in
      let k : p ≤ parent_at t (suc i) = le_below m p (parent_at t (suc i)) (omega arith) (omega arith) a in
      omega arith

  -- among them, an ancestor is no greater
  pub above_le_to : {p i : ℕ} → i < n → Above t p i → p ≤ i
  above_le_to {p} {i} l a = le_below (suc i) p i (le_refl (suc i)) l a

  -- a parent is smaller
  pub parent_smaller_to : (i : ℕ) → 0 < i → i < n → parent_at t i < i
  parent_smaller_to zero z l = absurd (omega arith)
  parent_smaller_to (suc i) z l =
      let h : parent_at t (suc i) ≤ i = above_le_to (omega arith) (o i l) in
      omega arith

  -- and of two nodes above one node, the lesser is above the greater
  pub above_linear_to : {a b i : ℕ} → i < n → Above t a i → Above t b i → a ≤ b → Above t a b
  above_linear_to l x here h = x
  above_linear_to {a} {b} l here (up z y) h =
      let s = parent_smaller_to a z l in
      let g : b ≤ parent_at t a = above_le_to (omega arith) y in
      absurd (omega arith)
  above_linear_to {a} {b} {i} l (up w x) (up z y) h =
      let s = parent_smaller_to i z l in
      above_linear_to (omega arith) x y h

module _ (t : Tree) (o : InOrder t) where
  -- an ancestor is no greater
  pub above_le : {p i : ℕ} → i < length t → Above t p i → p ≤ i
  unfolding InOrder
  above_le = above_le_to t (length t) o

  -- parents are smaller
  pub parent_smaller : (i : ℕ) → 0 < i → i < length t → parent_at t i < i
  unfolding InOrder
  parent_smaller = parent_smaller_to t (length t) o

  -- of two nodes above one node, the lesser is above the greater
  pub above_linear : {a b i : ℕ} → i < length t → Above t a i → Above t b i → a ≤ b → Above t a b
  unfolding InOrder
  above_linear = above_linear_to t (length t) o

  -- an ancestor of a node is a node
  pub above_node : {p i : ℕ} → i < length t → Above t p i → p < length t
  above_node l a = let h = above_le l a in omega arith

  -- two nodes that are above each other are one
  pub above_antisym : {a b : ℕ} → b < length t → Above t a b → Above t b a → a ≡ b
  above_antisym l x y = le_antisymm (above_le l x) (above_le (above_node l x) y)

  -- a child comes behind its parent: no child of k comes before k + 1
  pub child_less : {p i : ℕ} → Child t p i → p < i
  child_less {p} {i} c = rw c.parent at (parent_smaller i c.later c.node)

  -- a parent is a node
  pub child_node : {p i : ℕ} → Child t p i → p < length t
  child_node c = above_node c.node (child_above t c)

  -- a proper ancestor of a node is above its parent
  pub above_parent : {a i : ℕ} → i < length t → Above t a i → ¬ (a ≡ i) → (p : ℕ) × Child t p i × Above t a p
  above_parent {a} {i} l a_above n = let (z, x) = above_up t a_above n in (parent_at t i, record { later = z; node = l; parent = refl }, x)

  -- the root is above every node
  pub root_above : (i : ℕ) → i < length t → Above t 0 i
  unfolding InOrder
  root_above zero l = here
  root_above (suc i) l = up (zero-lt-suc i) (above_linear (omega arith) (root_above i (omega arith)) (o i l) zero-le)

  -- the parent of a node is above the record before the node
  pub child_before : {p i j : ℕ} → suc i ≡ j → Child t p j → Above t p i
  unfolding InOrder
  child_before {p} {i} e c = rw (e, c.parent) at (o i (omega arith))

  -- an ancestor that comes before the record before a node is above that record
  above_before : {k i : ℕ} → suc i < length t → k ≤ i → Above t k (suc i) → Above t k i
  above_before l h x = let (p, c, y) = above_parent l x (omega arith) in above_trans t y (child_before refl c)

  -- a run has no gap
  pub no_gap : {k m j : ℕ} → j < length t → k ≤ m → m ≤ j → Above t k j → Above t k m
  no_gap {k} {m} {j} l b h a =
      le_ind (λ (i : ℕ). i < length t → Above t k i → Above t k m) (λ u x. x)
      (λ i g step u x. step (omega arith) (above_before u (omega arith) x)) j h l a
