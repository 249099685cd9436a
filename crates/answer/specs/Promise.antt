-- What call 3, "answer on a roll", promises.
use Rattle.reply.specs.Reply.{Said}
use Rattle.reply.specs.Bytes.{Bytes}
use Rattle.reply.specs.Outcome.{InTurn, Outcome}
use Rattle.roll.specs.Roll.{nodes, Roll, RollFault}
use Rattle.query.specs.Meaning.{reach}
use Rattle.query.specs.Table.{entries, query_of}
use Rattle.query.specs.Fault.{answered, Query, QueryFault}
use Rattle.answer.specs.Bitmap.{SetGiven}

-- Call 3: "a bitmap of record numbers; room 512 bytes". "A query's answer is what it reaches from record 0."
unfoldable pub Answered : Bytes → Bytes → Bytes → Said → Bytes → Type 0
Answered roll query before said after =
    Outcome 512
    (Roll roll × Query answered query)
    (InTurn (Roll roll) (RollFault roll) (QueryFault answered query))
    (SetGiven (reach (nodes roll) (query_of (entries query)) 0) before)
    before said after
