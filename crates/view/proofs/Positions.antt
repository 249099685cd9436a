-- View positions: counting the visible nodes before each node numbers the visible ones from 0 in document order, without gaps and
-- without repetition. Assumes nothing.
use Prim.Native.Nat.{ℕ, zero, suc, ◌≤◌, ◌<◌}
use native.Mathlib.Nat.{le_refl, le_step, le_of_eq, le_of_suc-le-suc, eq-or-lt_of_le, lt_irrefl, lt_of_not-le, not-le_of_lt}
use native.Mathlib.Decide.{le_ind}
use native.Mathlib.Omega.{arith}
use mathlib.Core.Path.{◌≡◌, refl, ap}
use mathlib.Core.Logic.{◌↔◌, ◌⊎◌, inl, inr}
use Rattle.view.specs.View.{Before, start, seen, hidden, Position}

module _ {Seen : ℕ → Type 0} where
  -- there is one count
  pub before_unique : {i k l : ℕ} → Before Seen i k → Before Seen i l → k ≡ l
  before_unique start start = refl
  before_unique (seen s x) (seen r y) = ap suc (before_unique x y)
  before_unique (seen s x) (hidden h y) = absurd (h s)
  before_unique (hidden h x) (seen s y) = absurd (h s)
  before_unique (hidden h x) (hidden g y) = before_unique x y

  -- the count does not fall
  pub before_monotone : {i j k l : ℕ} → i ≤ j → Before Seen i k → Before Seen j l → k ≤ l
  before_monotone {i} {j} {k} {l} h x y = le_ind (λ n. (c : ℕ) → Before Seen n c → k ≤ c) same further j h l y
    where
      same : (c : ℕ) → Before Seen i c → k ≤ c
      same c z = le_of_eq (before_unique x z)

      further : (n : ℕ) → i ≤ n → ((c : ℕ) → Before Seen n c → k ≤ c) → (c : ℕ) → Before Seen (suc n) c → k ≤ c
      further n b upto c (seen {k = d} s z) = le_step (upto d z)
      further n b upto c (hidden g z) = upto c z

  -- of i nodes at most i are visible
  pub before_most : {i k : ℕ} → Before Seen i k → k ≤ i
  before_most start = le_refl 0
  before_most (seen s x) = let h = before_most x in omega arith
  before_most (hidden g x) = let h = before_most x in omega arith

  -- a visible node is counted behind it
  pub before_counts : {i j k l : ℕ} → i < j → Position Seen i k → Before Seen j l → k < l
  before_counts h x y = before_monotone h (seen x.visible x.before) y

  -- where the count has grown, the node is a later one
  pub before_reflects : {i j k l : ℕ} → k < l → Before Seen i k → Before Seen j l → i < j
  before_reflects h x y = lt_of_not-le (λ g. not-le_of_lt h (before_monotone g y x))

  -- there is one position
  pub position_unique : {i k l : ℕ} → Position Seen i k → Position Seen i l → k ≡ l
  position_unique x y = before_unique x.before y.before

  -- positions are in the order of the nodes
  pub position_order : {i j k l : ℕ} → Position Seen i k → Position Seen j l → i < j ↔ k < l
  position_order x y = (λ h. before_counts h x y.before, λ h. before_reflects h x.before y.before)

  -- two nodes have two positions
  pub position_injective : {i j k : ℕ} → Position Seen i k → Position Seen j k → i ≡ j
  position_injective {i} {j} {k} x y =
      let f : ¬ (i < j) = λ h. lt_irrefl k (before_counts h x y.before) in
      let b : ¬ (j < i) = λ h. lt_irrefl k (before_counts h y x.before) in
      omega arith

  -- every position below the count has a node
  pub position_taken : {n c k : ℕ} → Before Seen n c → k < c → (i : ℕ) × (i < n) × Position Seen i k
  position_taken start h = absurd (omega arith)
  position_taken {n} {c} {k} (seen {i} {k = d} s x) h = go (eq-or-lt_of_le (le_of_suc-le-suc h)) (position_taken x)
    where
      go : (k ≡ d) ⊎ (k < d) → (k < d → (j : ℕ) × (j < i) × Position Seen j k) → (j : ℕ) × (j < suc i) × Position Seen j k
      go (inl e) earlier = (i, le_refl (suc i), record { visible = s; before = rw e x })
      go (inr l) earlier = let r = earlier l in (r.0, le_step r.1, r.2)
  position_taken (hidden g x) h = let r = position_taken x h in (r.0, le_step r.1, r.2)

  module _ (dec : (i : ℕ) → Dec (Seen i)) where
    -- there is a count
    pub before_exists : (i : ℕ) → (k : ℕ) × Before Seen i k
    before_exists zero = (0, start)
    before_exists (suc i) = go (dec i) (before_exists i)
      where
        go : Dec (Seen i) → (k : ℕ) × Before Seen i k → (k : ℕ) × Before Seen (suc i) k
        go (yes s) x = (suc x.0, seen s x.1)
        go (no h) x = (x.0, hidden h x.1)

    -- a visible node has a position
    pub position_exists : {i : ℕ} → Seen i → (k : ℕ) × Position Seen i k
    position_exists {i} s = ((before_exists i).0, record { visible = s; before = (before_exists i).1 })

-- positions among one set of nodes are positions among any other that has the same nodes
module _ {S R : ℕ → Type 0} (same : (i : ℕ) → S i ↔ R i) where
  pub before_as : {i k : ℕ} → Before S i k → Before R i k
  before_as start = start
  before_as (seen {i = i} s x) = seen ((same i).0 s) (before_as x)
  before_as (hidden {i = i} h x) = hidden (λ r. h ((same i).1 r)) (before_as x)

  pub position_as : {i k : ℕ} → Position S i k → Position R i k
  position_as {i} x = record { visible = (same i).0 x.visible; before = before_as x.before }
