-- `read_text`: room and length are looked at first, and a short text is read as a long one, by way of a smaller table.
use native.Mathlib.Omega.{arith}
use Rattle.text.specs.Promise.{bad_length}
use Rattle.reader.proofs.Answering.{short_room, fault_told}
use Rattle.reader.proofs.read_text.Goals as goal
use Rattle.reader.proofs.read_text.Goals.{in_default-via-then-text-lt1, in_default-via-else-text-lt1+else-this-lt129+else-this-lt1025}

pub returns-then-room-lt-TABLE_ROOM : goal.returns-then-room-lt-TABLE_ROOM
returns-then-room-lt-TABLE_ROOM c = short_room _ _ c.if-room-lt-TABLE_ROOM.true c.refuse.ensures

pub returns-in_default : goal.returns-in_default
returns-in_default c =
    fault_told _ _ c.if-room-lt-TABLE_ROOM.false (bad_length (λ l.
    let some = l.some in
    let most = l.most in
    elim c.in_default.branch [
      | in_default-via-then-text-lt1 w ↦ omega arith
      | in_default-via-else-text-lt1+else-this-lt129+else-this-lt1025 w ↦ omega arith
    ]))
    c.refuse-in_default.ensures
