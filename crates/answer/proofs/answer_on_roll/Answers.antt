-- `answer_on_roll`: what the checks refuse is refused with the room as it was, and any other query's answer is given.
use Prim.Native.Nat.{◌≤◌}
use native.Mathlib.Omega.{arith}
use lib.ListN.{length}
use Rattle.reply.specs.Outcome.{done}
use Rattle.reply.proofs.Checking.{met}
use Rattle.roll.specs.Roll.{Roll}
use Rattle.roll.proofs.Deciding.{roll_root}
use Rattle.query.specs.Fault.{answered, Query}
use Rattle.checks.specs.Ready.{ReadyToAnswer}
use Rattle.checks.proofs.Turns.{ready_passed_up, ready_counted}
use Rattle.answer.specs.Promise.{Answered}
use Rattle.answer.proofs.Giving.{given_as}
use Rattle.answer.proofs.answer_on_roll.Goals as goal
use Rattle.answer.proofs.answer_on_roll.Goals.{In_ok-ready_to_answer}

-- where the checks pass, there is room, and both inputs are in order
passed : (c : In_ok-ready_to_answer)
    → let a = c.args in
    (512 ≤ length a.room.now) × (Roll a.roll.now × Query answered a.query.now)
unfolding ReadyToAnswer
passed c =
    let (room, right, size) = ready_counted c.in_ok-ready_to_answer.was c.ready_to_answer.ensures in
    (room, right)

pub returns-in_err-ready_to_answer : goal.returns-in_err-ready_to_answer
unfolding Answered ReadyToAnswer
returns-in_err-ready_to_answer c = ready_passed_up c.in_err-ready_to_answer.was (met c.from_residual.ensures.1) c.ready_to_answer.ensures

-- no entry has the number of the entries
pub reached-set-requires : goal.reached-set-requires
reached-set-requires c =
    let right = (passed (goal.at.reached-set-requires c).In_ok-ready_to_answer).1 in record { roll = right; start_in_bounds = roll_root right.0; held = λ l. absurd (omega (arith, c.count.ensures)) }

pub give-requires : goal.give-requires
give-requires c = (passed (goal.at.give-requires c).In_ok-ready_to_answer).0

pub returns : goal.returns
unfolding Answered
returns c =
    let (n, counted, bitmap) = given_as c.reached-set.ensures c.give.ensures in
    let (room, right) = passed (goal.at.returns c).In_ok-ready_to_answer in
    rw counted (done room right bitmap)
