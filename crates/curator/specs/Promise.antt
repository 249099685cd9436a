-- What call 6, "curator's answer", promises.
use Rattle.std.specs.Prelude.{ℕ}
use Rattle.reply.specs.Reply.{Said}
use Rattle.reply.specs.Bytes.{Bytes}
use Rattle.reply.specs.Outcome.{InTurn, Outcome}
use Rattle.tree.specs.Tree.{Tree}
use Rattle.roll.specs.Roll.{nodes, Roll, RollFault}
use Rattle.query.specs.Meaning.{reach}
use Rattle.query.specs.Table.{entries, query_of}
use Rattle.query.specs.Fault.{curators, Query, QueryFault}
use Rattle.answer.specs.Bitmap.{SetGiven}
use Rattle.view.specs.View.{View}
use Rattle.view.specs.Promise.{Seen, Annotated, AnnotatedFault}

-- "the query's answer on the view, a bitmap of view positions"
pub record ViewAnswered (roll annotation filters query before : Bytes) (c : ℕ) (after : Bytes) : Type 0 where
  pub view : Tree
  pub is : View (nodes roll) (Seen roll annotation filters) view
  pub given : SetGiven (reach view (query_of (entries query)) 0) before c after

-- Call 6: "Curator's answer, from roll, annotation, filter table and query table"; "room 512 bytes".
unfoldable pub CuratorAnswered : Bytes → Bytes → Bytes → Bytes → Bytes → Said → Bytes → Type 0
CuratorAnswered roll annotation filters query before said after =
    Outcome 512
    (Roll roll × (Annotated annotation filters × Query curators query))
    (InTurn (Roll roll) (RollFault roll)
    (InTurn (Annotated annotation filters) (AnnotatedFault annotation filters) (QueryFault curators query)))
    (ViewAnswered roll annotation filters query before)
    before said after
