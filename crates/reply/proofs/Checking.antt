-- How a check comes to what it promises. Assumes nothing.
use Prim.Native.Nat.{ℕ, zero-le, ◌<◌}
use native.Mathlib.Omega.{arith}
use mathlib.Core.Path.{◌≡◌, refl, ap, ◌∙◌}
use Rattle.reply.specs.declared.Refusal.{Refusal}
use Rattle.std.specs.Prelude.{Result, Ok, Err, IsErrAnd}
use Rattle.std.proofs.lemmas.Result.{err_from_is_err_and}
use Rattle.reply.specs.Bytes.{Bytes}
use Rattle.reply.specs.Reply.{Said, count, refused, said}
use Rattle.reply.specs.Outcome.{Lowest, InTurn, first, behind, Outcome, done, short, turned_away, Checked}

-- how one call comes out is how another does that is right where it is right, has its faults and does its work
pub outcome_as : {room : ℕ} {Right Whole : Type 0} {Fault Listed : ℕ → ℕ → Type 0} {Done Made : ℕ → Bytes → Type 0} {before after : Bytes}
    {s : Said} → (Right → Whole) → ((n p : ℕ) → Fault n p → Listed n p) → ((c : ℕ) (x : Bytes) → Done c x → Made c x)
    → Outcome room Right Fault Done before s after → Outcome room Whole Listed Made before s after
outcome_as whole listed made (done room right work) = done room (whole right) (made _ _ work)
outcome_as whole listed made (short less) = short less
outcome_as whole listed made (turned_away room fault) = turned_away room (listed _ _ fault)

-- and a fault of what comes behind is one of what else may stand there
pub in_turn_as : {Right : Type 0} {First Behind Other : ℕ → ℕ → Type 0} → ((n p : ℕ) → Behind n p → Other n p)
    → (n p : ℕ) → InTurn Right First Behind n p → InTurn Right First Other n p
in_turn_as other n p (first fault) = first fault
in_turn_as other n p (behind right fault) = behind right (other n p fault)

-- what a `?` returns is the refusal that it met
pub met : {A E : Type 0} {up : Result A E} {x : E} → IsErrAnd up (λ y. y ≡ x) → up ≡ Err x
met {up = up} h = let p = err_from_is_err_and up h in p.1 ∙ ap Err p.2

module _ {Right : Type 0} {Fault : ℕ → ℕ → Type 0} {size : ℕ} where
  -- a right input is counted
  pub passes : {c : ℕ} → Right → c ≡ size → Checked Right Fault size (count c)
  passes right e = done zero-le right (e, refl)

  -- a fault is refused
  pub fails : {n p : ℕ} → Fault n p → Checked Right Fault size (refused n p)
  fails fault = turned_away zero-le fault

  -- an input that is counted is right, and the count is its size
  pub counted : {c : ℕ} → Checked Right Fault size (count c) → Right × (c ≡ size)
  counted (done room right made) = (right, made.0)

  -- an input that is refused has the fault
  pub faulted : {n p : ℕ} → Checked Right Fault size (refused n p) → Fault n p
  faulted (short less) = absurd (omega arith)
  faulted (turned_away room fault) = fault

  -- an input whose check replies with a count is right, and the count is its size
  pub right_counted : {c : ℕ} {r : Result ℕ Refusal} → r ≡ Ok c → Checked Right Fault size (said r) → Right × (c ≡ size)
  right_counted e h = counted (rw e at h)

  pub right_of : {c : ℕ} {r : Result ℕ Refusal} → r ≡ Ok c → Checked Right Fault size (said r) → Right
  right_of e h = (right_counted e h).0

  -- a refusal is passed up at once, where the fault is one of what is checked above
  pub passed_up : {Above : Type 0} {Listed : ℕ → ℕ → Type 0} {most : ℕ} {r up : Result ℕ Refusal} {x : Refusal}
      → ((n p : ℕ) → Fault n p → Listed n p) → r ≡ Err x → up ≡ Err x → Checked Right Fault size (said r) → Checked Above Listed most (said up)
  passed_up listed e f h = rw f (turned_away zero-le (listed _ _ (faulted (rw e at h))))

  -- a check of one thing is a check of another that is right where it is right and has its faults
  pub checked_as : {Whole : Type 0} {Listed : ℕ → ℕ → Type 0} {s : Said}
      → (Right → Whole) → ((n p : ℕ) → Fault n p → Listed n p) → Checked Right Fault size s → Checked Whole Listed size s
  checked_as whole listed h = outcome_as whole listed (λ c x made. made) h

-- records that are checked one by one: a fault of record i is the lowest, where the records before it are right
pub lowest_refused : {Right : ℕ → Type 0} {Fault : ℕ → ℕ → Type 0} {size i n : ℕ} {s : Said}
    → i < size → ((k : ℕ) → k < i → Right k) → Fault n i → s ≡ refused n i → Checked (Right i) (Lowest Right Fault size) 1 s
lowest_refused within before fault e = rw e (fails (record { within = within; faulty = fault; lowest = before }))
