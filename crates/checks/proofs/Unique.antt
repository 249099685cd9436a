-- The checks say one thing of the inputs of calls 3 to 6 in turn. Assumes nothing.
use Prim.Native.Nat.{ℕ, ◌≤◌}
use native.Mathlib.Omega.{arith}
use mathlib.Core.Path.{◌≡◌, refl}
use Rattle.reply.specs.Reply.{Said}
use Rattle.reply.specs.Bytes.{Bytes}
use Rattle.reply.proofs.Unique.{Wrong, OneFault, checked_one, in_turn_wrong, in_turn_one}
use Rattle.roll.proofs.Unique.{roll_wrong, roll_one}
use Rattle.query.specs.Fault.{curators, answered}
use Rattle.query.proofs.Unique.{query_wrong, query_one}
use Rattle.view.proofs.Unique.{annotated_wrong, annotated_one}
use Rattle.checks.specs.Ready.{Short, short, Ready, ReadyToAnswer, ReadyToCut, ReadyToRewrite, ReadyForCurator}

-- the checks before a call's work say one thing: a room is not both long enough and too short, and its fault is one
ready_one : {room given size : ℕ} {Right : Type 0} {Fault : ℕ → ℕ → Type 0} → Wrong Right Fault → OneFault Fault
    → {s u : Said} → Ready room given Right Fault size s → Ready room given Right Fault size u → s ≡ u
ready_one {room} {given} wrong one = checked_one (in_turn_wrong room_wrong wrong) (in_turn_one room_wrong room_one one)
  where
    room_wrong : Wrong (room ≤ given) (Short room given)
    room_wrong n p (short less) fits = omega arith

    room_one : OneFault (Short room given)
    room_one n m p q (short less) (short again) = (refl, refl)

module _ (given : ℕ) (roll annotation filters query : Bytes) {s u : Said} where
  pub answer_one : ReadyToAnswer given roll query s → ReadyToAnswer given roll query u → s ≡ u
  unfolding ReadyToAnswer
  answer_one =
      ready_one (in_turn_wrong (roll_wrong roll) (query_wrong answered query))
      (in_turn_one (roll_wrong roll) (roll_one roll) (query_one answered query))

  pub cut_one : ReadyToCut given roll annotation filters s → ReadyToCut given roll annotation filters u → s ≡ u
  unfolding ReadyToCut
  cut_one =
      ready_one (in_turn_wrong (roll_wrong roll) (annotated_wrong annotation filters))
      (in_turn_one (roll_wrong roll) (roll_one roll) (annotated_one annotation filters))

  pub rewrite_one : ReadyToRewrite given annotation filters query s → ReadyToRewrite given annotation filters query u → s ≡ u
  unfolding ReadyToRewrite
  rewrite_one =
      ready_one (in_turn_wrong (annotated_wrong annotation filters) (query_wrong curators query))
      (in_turn_one (annotated_wrong annotation filters) (annotated_one annotation filters) (query_one curators query))

  pub curator_one : ReadyForCurator given roll annotation filters query s → ReadyForCurator given roll annotation filters query u → s ≡ u
  unfolding ReadyForCurator
  curator_one =
      ready_one (in_turn_wrong (roll_wrong roll) (in_turn_wrong (annotated_wrong annotation filters) (query_wrong curators query)))
      (in_turn_one (roll_wrong roll) (roll_one roll)
      (in_turn_one (annotated_wrong annotation filters) (annotated_one annotation filters) (query_one curators query)))
