-- `checks::ready::ready_to_answer` checks in 01's order: the room, then the roll, and behind it the query.
use Rattle.reply.proofs.Checking.{met, right_of}
use Rattle.roll.specs.Promise.{RollChecked}
use Rattle.checks.specs.Ready.{ReadyToAnswer}
use Rattle.checks.proofs.Turns.{short_room, checked_ready, first_refused, rest_refused, both_counted}
use Rattle.checks.proofs.ready.ready_to_answer.Goals as goal

pub returns-then-room-lt-BITMAP_ROOM : goal.returns-then-room-lt-BITMAP_ROOM
unfolding ReadyToAnswer
returns-then-room-lt-BITMAP_ROOM c = short_room c.if-room-lt-BITMAP_ROOM.true c.refuse.ensures

pub returns-in_err-nodes : goal.returns-in_err-nodes
unfolding ReadyToAnswer RollChecked
returns-in_err-nodes c =
    checked_ready c.if-room-lt-BITMAP_ROOM.false (first_refused c.in_err-nodes.was (met c.from_residual.ensures.1) c.check_roll.ensures)

pub returns-in_err-check_query : goal.returns-in_err-check_query
unfolding ReadyToAnswer RollChecked
returns-in_err-check_query c =
    let roll = right_of c.in_ok-nodes.was c.check_roll.ensures in
    checked_ready c.if-room-lt-BITMAP_ROOM.false
    (rest_refused roll c.in_err-check_query.was (met c.from_residual-in_err-check_query.ensures.1) c.check_query.ensures)

pub returns : goal.returns
unfolding ReadyToAnswer RollChecked
returns c =
    both_counted c.if-room-lt-BITMAP_ROOM.false c.in_ok-nodes.was c.check_roll.ensures c.in_ok-check_query.was c.check_query.ensures
