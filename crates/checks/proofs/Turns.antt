-- Checks that come one behind another, and what they say to a call that goes on from them. Assumes nothing.
use Prim.Native.Nat.{ℕ, ◌≤◌, ◌<◌}
use mathlib.Core.Path.{◌≡◌}
use lib.ListN.{length}
use Rattle.reply.specs.declared.Refusal.{Refusal}
use Rattle.std.specs.Prelude.{Result, Ok, Err}
use Rattle.reply.specs.Reply.{Said, count, refused, said}
use Rattle.reply.specs.Bytes.{Bytes}
use Rattle.reply.specs.Outcome.{InTurn, first, behind, Outcome, short, turned_away, Checked}
use Rattle.reply.proofs.Checking.{passes, fails, right_counted, faulted, right_of, passed_up, checked_as}
use Rattle.checks.specs.Ready as ready
use Rattle.checks.specs.Ready.{Short, Ready}

-- Two checks in turn: the first refuses, or it passes and the rest refuses, or both pass and the count is that of one of them.
module _ {First Both : Type 0} {F G : ℕ → ℕ → Type 0} where
  -- a refusal of the first input is the refusal of both
  pub first_refused : {m size : ℕ} {r up : Result ℕ Refusal} {x : Refusal} → r ≡ Err x → up ≡ Err x → Checked First F m (said r)
      → Checked Both (InTurn First F G) size (said up)
  first_refused e f h = passed_up (λ n p. first) e f h

  module _ {Rest : Type 0} (right : First) where
    -- where the first input is right, a refusal of the rest is the refusal of both
    pub rest_refused : {m size : ℕ} {r up : Result ℕ Refusal} {x : Refusal} → r ≡ Err x → up ≡ Err x → Checked Rest G m (said r)
        → Checked Both (InTurn First F G) size (said up)
    rest_refused e f h = passed_up (λ n p. behind right) e f h

    -- where the first input is right, what the check of the rest says is said of both
    pub rest_checked : {size : ℕ} {s : Said} → (Rest → Both) → Checked Rest G size s → Checked Both (InTurn First F G) size s
    rest_checked both h = checked_as both (λ n p. behind right) h

module _ {room given : ℕ} {Right : Type 0} {Fault : ℕ → ℕ → Type 0} {size : ℕ} where
  -- a room that is too short is refused before every other fault
  pub short_room : {s : Said} → given < room → s ≡ refused 1 0 → Ready room given Right Fault size s
  short_room less e = rw e (fails (first (ready.short less)))

  -- where there is room, the checks of the inputs are all that is left
  pub checked_ready : {s : Said} → room ≤ given → Checked Right Fault size s → Ready room given Right Fault size s
  checked_ready fits h = rest_checked fits (λ right. (fits, right)) h

  -- what is counted has its room and is right, and the count is its size
  pub ready_counted : {c : ℕ} {r : Result ℕ Refusal} → r ≡ Ok c → Ready room given Right Fault size (said r) → (room ≤ given) × Right × (c ≡ size)
  ready_counted e h = let (right, same) = right_counted e h in (right.0, right.1, same)

-- where there is room, two inputs that both pass are counted by the first
pub both_counted : {room given : ℕ} {First Rest : Type 0} {F G : ℕ → ℕ → Type 0} {size m c d : ℕ} {u v : Result ℕ Refusal} → room ≤ given
    → u ≡ Ok c → Checked First F size (said u) → v ≡ Ok d → Checked Rest G m (said v)
    → Ready room given (First × Rest) (InTurn First F G) size (count c)
both_counted fits e h f k = let (right, same) = right_counted e h in checked_ready fits (passes (right, right_of f k) same)

-- what is refused is how the call comes out, whatever its work would be
pub ready_passed_up : {room : ℕ} {Right : Type 0} {Fault : ℕ → ℕ → Type 0} {size : ℕ} {Done : ℕ → Bytes → Type 0} {before : Bytes}
    {r up : Result ℕ Refusal} {x : Refusal} → r ≡ Err x → up ≡ Err x → Ready room (length before) Right Fault size (said r)
    → Outcome room Right Fault Done before (said up) before
ready_passed_up {room} {Right} {Fault} {Done = Done} {before = before} e f h = rw f (go (faulted (rw e at h)))
  where
    go : {n p : ℕ} → InTurn (room ≤ length before) (Short room (length before)) Fault n p
        → Outcome room Right Fault Done before (refused n p) before
    go (first (ready.short less)) = short less
    go (behind fits fault) = turned_away fits fault
