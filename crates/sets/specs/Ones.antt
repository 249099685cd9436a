-- The digits of a word that are 1, one by one, and those at whose places something holds.
use Rattle.std.specs.Prelude.{ℕ, ◌<◌, ◌≡◌, ◌≢◌, ◌↔◌, Bool, true, false, Option, Some, None}
use Rattle.sets.specs.Bits.{digit}

-- k is the lowest digit of the word that is 1, and `rest` is the word without it
pub record Taken (word k rest : ℕ) : Type 0 where
  pub low : k < 64
  pub one : digit word k ≡ 1
  pub lowest : (j : ℕ) → j < k → ¬ (digit word j ≡ 1)
  pub others : (j : ℕ) → (digit rest j ≡ 1) ↔ ((digit word j ≡ 1) × (j ≢ k))
  pub less : rest < word

-- the lowest digit that is 1 and the word without it, or none in a word that is 0, which it stays
abbrev pub Lowest : ℕ → Option ℕ → ℕ → Type 0
Lowest word (Some k) rest = Taken word k rest
Lowest word None rest = (word ≡ 0) × (rest ≡ 0)

-- `kept` has those digits of the word at whose places a test came out true; `test k b` says that at k it may come out as b
pub record Kept (test : ℕ → Bool → Type 0) (word kept : ℕ) : Type 0 where
  pub passed : (k : ℕ) → k < 64 → digit kept k ≡ 1 → (digit word k ≡ 1) × test k true
  pub failed : (k : ℕ) → k < 64 → digit word k ≡ 1 → ¬ (digit kept k ≡ 1) → test k false
