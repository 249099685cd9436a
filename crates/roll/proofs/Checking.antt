-- How the check of a roll comes out, and what its reply tells a caller. Assumes nothing.
use Prim.Native.Nat.{ℕ, ◌<◌}
use mathlib.Core.Path.{◌≡◌}
use lib.ListN.{length}
use Rattle.reply.specs.declared.Refusal.{Refusal}
use Rattle.std.specs.Prelude.{Result, Ok, Err}
use Rattle.reply.specs.Reply.{number, Said, count, refused, said}
use Rattle.reply.specs.Bytes.{Bytes}
use Rattle.reply.proofs.Checking.{passes, fails, counted, faulted}
use Rattle.roll.specs.Roll.{nodes, NodeRight, RollLength, Roll, bad_length}
use Rattle.roll.specs.Promise.{RollChecked}
use Rattle.roll.proofs.Unique.{roll_wrong}

module _ (b : Bytes) where
  -- a roll is refused for its length
  pub length_refused : {s : Said} → s ≡ refused 2 0 → ¬ RollLength b → RollChecked b s
  unfolding RollChecked
  length_refused e f = rw e (fails (bad_length f))

  -- a roll whose records are right is counted
  pub roll_counted : {n : ℕ} → RollLength b → n ≡ length (nodes b) → ((k : ℕ) → k < n → NodeRight b k) → RollChecked b (count n)
  unfolding RollChecked
  roll_counted size e right = passes (record { size = size; node = λ i l. right i (rw e l) }) e

  -- what the reply of the check tells a caller: the table is a roll of so many nodes, or
  pub roll_right : {n : ℕ} {r : Result ℕ Refusal} → r ≡ Ok n → RollChecked b (said r) → Roll b × (n ≡ length (nodes b))
  unfolding RollChecked
  roll_right e h = counted (rw e at h)

  -- it is none
  pub not_roll : {r : Result ℕ Refusal} {x : Refusal} → r ≡ Err x → RollChecked b (said r) → ¬ Roll b
  unfolding RollChecked
  not_roll {x = x} e h = roll_wrong b (number x.reason) x.place (faulted (rw e at h))
