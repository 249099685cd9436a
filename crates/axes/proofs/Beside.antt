-- Nodes with the same nearest visible proper ancestor: siblings have it, and so have the nodes that follow behind a run as long as only
-- hidden ones do. Assumes nothing.
use Prim.Native.Nat.{ℕ, suc, ◌≤◌, ◌<◌}
use native.Mathlib.Decide.{dec_lt}
use native.Mathlib.Omega.{arith}
use mathlib.Core.Path.{◌≡◌}
use mathlib.Core.Logic.{◌⊎◌, inl, inr, by_cases}
use lib.ListN.{length}
use Rattle.tree.specs.Tree.{Tree, Child, Above, InOrder}
use Rattle.tree.proofs.Order.{above_trans, above_le, above_antisym, no_gap}
use Rattle.tree.proofs.Siblings.{child_unique}
use Rattle.tree.proofs.Runs.{end, end_behind, behind_run, runs_nest}
use Rattle.view.specs.View.{Nearest, parent, beyond}
use Rattle.view.proofs.Nearest.{nearest_unique, nearest_seen, nearest_above, nearest_node, nearest_less, nearest_below, nearest_exists}

-- i and j have the same nearest visible proper ancestor.
pub record Beside (t : Tree) (Seen : ℕ → Type 0) (i j : ℕ) : Type 0 where
  pub above : ℕ
  pub left : Nearest t Seen i above
  pub right : Nearest t Seen j above

-- No node from a up to b is visible.
abbrev pub Unseen : (ℕ → Type 0) → ℕ → ℕ → Type 0
Unseen Seen a b = (n : ℕ) → a ≤ n → n < b → ¬ Seen n

module _ (Seen : ℕ → Type 0) where
  -- from k up to k there is no node
  pub unseen_none : (k : ℕ) → Unseen Seen k k
  unseen_none k n a b = absurd (omega arith)

  -- a hidden node is such a stretch
  pub unseen_one : {k : ℕ} → ¬ Seen k → Unseen Seen k (suc k)
  unseen_one {k} h n a b =
      let same : n ≡ k = omega arith in
      rw same h

  -- and so are two stretches, one behind the other
  pub unseen_join : {a b c : ℕ} → Unseen Seen a b → Unseen Seen b c → Unseen Seen a c
  unseen_join {b = b} g h n u v = by_cases (dec_lt n b) (λ x. g n u x) (λ x. h n (omega arith) v)

module _ {t : Tree} {Seen : ℕ → Type 0} where
  -- siblings have the same nearest
  pub nearest_sibling : {q i j p : ℕ} → Child t q i → Child t q j → Nearest t Seen i p → Nearest t Seen j p
  nearest_sibling c d (parent b s) = parent (rw (child_unique t c b) at d) s
  nearest_sibling c d (beyond b h x) = beyond (rw (child_unique t c b) at d) h x

  -- two nodes that are beside a third are beside each other
  pub beside_trans : {i k j : ℕ} → Beside t Seen i k → Beside t Seen k j → Beside t Seen i j
  beside_trans x y = record { above = x.above; left = x.left; right = rw (nearest_unique x.right y.left) y.right }

module _ {t : Tree} {Seen : ℕ → Type 0} (o : InOrder t) where
  -- a node behind a visible node i, with i's nearest, is not in the run of i: its nearest would be i or below i
  pub nearest_outside : {i m p : ℕ} → Seen i → i < m → Nearest t Seen i p → Nearest t Seen m p → end t i ≤ m
  nearest_outside {i} {m} {p} s l x y = go (runs_nest t o (nearest_node y) (omega arith))
    where
      go : (end t i ≤ m) ⊎ (Above t i m × (end t m ≤ end t i)) → end t i ≤ m
      go (inl a) = a
      go (inr a) =
          let less = nearest_less o x in
          let node = nearest_node x in
          let below = above_le t o {p = i} {i = p} (omega arith) (nearest_below o s a.0 (omega arith) y) in
          absurd (omega arith)

  -- where only hidden nodes stand between the run of i and m, the nearest of m comes before i
  nearest_before : {i m q : ℕ} → i < length t → end t i ≤ m → Unseen Seen (end t i) m → Nearest t Seen m q → q < i
  nearest_before {i} {m} {q} l a h x =
      let node = nearest_node x in
      let less = nearest_less o x in
      by_cases (dec_lt q i) (λ u. u) (λ u. absurd (go (runs_nest t o {a = i} {b = q} (omega arith) (omega arith))))
    where
      go : (end t i ≤ q) ⊎ (Above t i q × (end t q ≤ end t i)) → ⊥
      go (inl b) = h q b (nearest_less o x) (nearest_seen x)
      go (inr b) =
          let inside = behind_run t o m (nearest_node x) (above_trans t b.0 (nearest_above x)) in
          omega arith

  -- a node between i and j whose nearest comes before i has the nearest that i and j have
  nearest_between : {i m j p q : ℕ} → Nearest t Seen i p → Nearest t Seen j p → i < m → m ≤ j → Nearest t Seen m q → q < i → q ≡ p
  nearest_between {i} {m} {j} {p} {q} x y a b z c =
      let node = nearest_node y in
      let less = nearest_less o x in
      let over : Above t q i = no_gap t o (nearest_node z) (omega arith) (omega arith) (nearest_above z) in
      let under : Above t p m = no_gap t o node (omega arith) b (nearest_above y) in
      above_antisym t o (omega arith) (nearest_below o (nearest_seen z) over (omega arith) x) (nearest_below o (nearest_seen x) under (omega arith) z)

  module _ (dec : (i : ℕ) → Dec (Seen i)) (root : Seen 0) where
    -- where only hidden nodes stand between the run of i and m, m has the nearest that i and a j behind m have
    pub nearest_behind : {i m j p : ℕ} → Nearest t Seen i p → Nearest t Seen j p → end t i ≤ m → m ≤ j → Unseen Seen (end t i) m → Nearest t Seen m p
    nearest_behind {i} {m} {j} x y a b h =
        let node = nearest_node y in
        let behind = end_behind t o i (nearest_node x) in
        let (q, z) = nearest_exists o dec root m (omega arith) (omega arith) in
        rw (nearest_between x y (omega arith) b z (nearest_before (nearest_node x) a h z)) at z
