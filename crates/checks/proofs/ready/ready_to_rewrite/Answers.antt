-- `checks::ready::ready_to_rewrite` checks in 01's order: the room, then filter table, annotation and query.
use Rattle.checks.specs.Ready.{ReadyToRewrite}
use Rattle.checks.proofs.Turns.{short_room, checked_ready}
use Rattle.checks.proofs.ready.ready_to_rewrite.Goals as goal

pub returns-then-room-lt-REWRITTEN_ROOM : goal.returns-then-room-lt-REWRITTEN_ROOM
unfolding ReadyToRewrite
returns-then-room-lt-REWRITTEN_ROOM c = short_room c.if-room-lt-REWRITTEN_ROOM.true c.refuse.ensures

pub returns : goal.returns
unfolding ReadyToRewrite
returns c = checked_ready c.if-room-lt-REWRITTEN_ROOM.false c.check_asked.ensures
