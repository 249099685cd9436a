-- What call 4, "cut out the view", promises.
use Rattle.std.specs.Prelude.{ℕ, ◌≡◌, length}
use Rattle.reply.specs.Reply.{Said}
use Rattle.reply.specs.Bytes.{Bytes, Written}
use Rattle.reply.specs.Outcome.{InTurn, Outcome}
use Rattle.tree.specs.Tree.{Tree}
use Rattle.roll.specs.Roll.{nodes, node_bytes, Roll, RollFault}
use Rattle.query.specs.Table.{entries}
use Rattle.query.specs.Fault.{FilterTable, FilterFault}
use Rattle.view.specs.Annotation.{Annotation, AnnotationFault, rules}
use Rattle.view.specs.Visible.{Visible}
use Rattle.view.specs.View.{View}

-- the visible records of a roll
unfoldable pub Seen : Bytes → Bytes → Bytes → ℕ → Type 0
Seen roll annotation filters = Visible (nodes roll) (rules (entries filters) annotation)

-- An annotation and its filter table, which is checked first.
pub record Annotated (annotation filters : Bytes) : Type 0 where
  pub table : FilterTable filters
  pub records : Annotation (entries filters) annotation

unfoldable pub AnnotatedFault : Bytes → Bytes → ℕ → ℕ → Type 0
AnnotatedFault annotation filters = InTurn (FilterTable filters) (FilterFault filters) (AnnotationFault (entries filters) annotation)

-- The view's table is in the room, and the count is its number of nodes.
pub record ViewGiven (roll annotation filters before : Bytes) (c : ℕ) (after : Bytes) : Type 0 where
  pub view : Tree
  pub is : View (nodes roll) (Seen roll annotation filters) view
  pub count : c ≡ length view
  pub written : Written before (node_bytes view) after

-- Call 4: "Cut out the view; room as long as the roll. Gives its number of nodes."
unfoldable pub ViewCut : Bytes → Bytes → Bytes → Bytes → Said → Bytes → Type 0
ViewCut roll annotation filters before said after =
    Outcome (length roll)
    (Roll roll × Annotated annotation filters)
    (InTurn (Roll roll) (RollFault roll) (AnnotatedFault annotation filters))
    (ViewGiven roll annotation filters before)
    before said after
