-- How every call comes out: it refuses exactly where a fault is listed, and "a refusal changes no lent byte".
use Rattle.std.specs.Prelude.{ℕ, ◌≤◌, ◌<◌, ◌≡◌, [], length}
use Rattle.reply.specs.Bytes.{Bytes}
use Rattle.reply.specs.Reply.{Said, count, refused}

-- The fault of number n stands at the lowest faulty record i of `size` records: all before it are right.
pub record Lowest (Right : ℕ → Type 0) (Fault : ℕ → ℕ → Type 0) (size n i : ℕ) : Type 0 where
  pub within : i < size
  pub faulty : Fault n i
  pub lowest : (k : ℕ) → k < i → Right k

-- "Order": a fault of the first input, or, where that is right, a fault of what comes behind it.
pub data InTurn (Right : Type 0) (First Behind : ℕ → ℕ → Type 0) : ℕ → ℕ → Type 0 where
  first : {n p : ℕ} → First n p → InTurn Right First Behind n p
  behind : {n p : ℕ} → Right → Behind n p → InTurn Right First Behind n p

-- What a call says, and the lent bytes as it returns. `room`: the bytes that it must be lent.
-- `Right`: its inputs are in order. `Fault n p`: they have the fault of number n at place p.
-- `Done c after`: its work is done, with the count c and `after` in the lent bytes.
pub data Outcome (room : ℕ) (Right : Type 0) (Fault : ℕ → ℕ → Type 0) (Done : ℕ → Bytes → Type 0) (before : Bytes) : Said → Bytes → Type 0 where
  done : {c : ℕ} {after : Bytes} → room ≤ length before → Right → Done c after → Outcome room Right Fault Done before (count c) after
  -- 1, "the output is shorter than the room named", before every other fault
  short : length before < room → Outcome room Right Fault Done before (refused 1 0) before
  turned_away : {n p : ℕ} → room ≤ length before → Fault n p → Outcome room Right Fault Done before (refused n p) before

-- A check by itself: it is lent nothing, and where the input is right it counts its records.
abbrev pub Checked : Type 0 → (ℕ → ℕ → Type 0) → ℕ → Said → Type 0
Checked Right Fault size said = Outcome 0 Right Fault (λ c after. (c ≡ size) × (after ≡ [])) [] said []
