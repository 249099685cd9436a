-- Sets of nodes as words of 64 bits: who is in one, and what a set is made of.
use Rattle.std.specs.Prelude.{ℕ, ◌<◌, ◌≡◌, ◌↔◌, List}
use Rattle.sets.specs.Bits.{bit_of}

-- k is in the set
pub record In (set : List ℕ) (k : ℕ) : Type 0 where
  pub one : bit_of 64 set k ≡ 1

-- `set` holds just the numbers with the property
pub record Holds (P : ℕ → Type 0) (set : List ℕ) : Type 0 where
  pub exact : (k : ℕ) → In set k ↔ P k

-- `to` is what R reaches from the members of `from`
abbrev pub Image : (ℕ → ℕ → Type 0) → List ℕ → List ℕ → Type 0
Image R from to = Holds (λ j. (i : ℕ) × In from i × R i j) to

-- `to` is what has the property in `from`
abbrev pub Narrowed : (ℕ → Type 0) → List ℕ → List ℕ → Type 0
Narrowed P from to = Holds (λ k. In from k × P k) to

-- all members are below n
abbrev pub Inside : ℕ → List ℕ → Type 0
Inside n set = (k : ℕ) → In set k → k < n
