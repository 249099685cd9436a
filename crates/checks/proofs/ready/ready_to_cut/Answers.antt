-- `checks::ready::ready_to_cut` checks in 01's order: the room, then the roll, and behind it filter table and annotation.
use Rattle.reply.proofs.Checking.{met, right_of}
use Rattle.roll.specs.Promise.{RollChecked}
use Rattle.checks.specs.Ready.{ReadyToCut}
use Rattle.checks.proofs.Turns.{short_room, checked_ready, first_refused, rest_refused, both_counted}
use Rattle.checks.proofs.ready.ready_to_cut.Goals as goal

pub returns-then-room-roll : goal.returns-then-room-roll
unfolding ReadyToCut
returns-then-room-roll c = short_room c.if-room-roll.true c.refuse.ensures

pub returns-in_err-nodes : goal.returns-in_err-nodes
unfolding ReadyToCut RollChecked
returns-in_err-nodes c =
    checked_ready c.if-room-roll.false (first_refused c.in_err-nodes.was (met c.from_residual.ensures.1) c.check_roll.ensures)

pub returns-in_err-check_annotated : goal.returns-in_err-check_annotated
unfolding ReadyToCut RollChecked
returns-in_err-check_annotated c =
    let roll = right_of c.in_ok-nodes.was c.check_roll.ensures in
    checked_ready c.if-room-roll.false
    (rest_refused roll c.in_err-check_annotated.was (met c.from_residual-in_err-check_annotated.ensures.1) c.check_annotated.ensures)

pub returns : goal.returns
unfolding ReadyToCut RollChecked
returns c =
    both_counted c.if-room-roll.false c.in_ok-nodes.was c.check_roll.ensures c.in_ok-check_annotated.was c.check_annotated.ensures
