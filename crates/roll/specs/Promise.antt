-- What call 1, "check a roll", and call 7, "run of a record", promise.
use Rattle.std.specs.Prelude.{ℕ, ◌+◌, ◌*◌, ◌≤◌, ◌<◌, ◌≡◌, length}
use Rattle.std.specs.Borrow.{Bor}
use Rattle.std.proofs.Math.Seq.{slice}
use Rattle.reply.specs.Reply.{Said}
use Rattle.reply.specs.Bytes.{Bytes}
use Rattle.reply.specs.Outcome.{Checked}
use Rattle.tree.specs.Tree.{RunEnds}
use Rattle.roll.specs.Roll.{nodes, Roll, RollFault}

-- Call 1 "gives the number of nodes".
unfoldable pub RollChecked : Bytes → Said → Type 0
RollChecked roll said = Checked (Roll roll) (RollFault roll) (length (nodes roll)) said

-- Where the run of record k lies: from byte `start` of the roll up to byte `end`, which is not among them. It "holds a record and all its
-- descendants, its first byte being the record's own. A bad roll or a record number not in it gives an empty part".
pub data RunPlace (roll : Bytes) (k : ℕ) : ℕ → ℕ → Type 0 where
  bad_roll : ¬ Roll roll → RunPlace roll k 0 0
  no_record : length (nodes roll) ≤ k → RunPlace roll k 0 0
  run : {e : ℕ} → Roll roll → k < length (nodes roll) → RunEnds (nodes roll) k e → RunPlace roll k (4 * k) (4 * e)

-- Call 7 "gives back the part of the caller's table" that lies there: not some bytes that are equal to it, but the table's own, since its
-- pointer (a block of memory and a place in it) is `start` bytes behind the table's.
pub record RunGiven (table : Bor Bytes) (k : ℕ) (part : Bor Bytes) : Type 0 where
  pub start : ℕ
  pub end : ℕ
  pub pointer : part.ref_ptr ≡ (table.ref_ptr.0, table.ref_ptr.1 + start)
  pub bytes : part.now ≡ slice start end table.now
  pub place : RunPlace table.now k start end
