-- What call 5, "rewrite", promises. Its bytes and its count are free; its meaning and its bounds are not.
use Rattle.std.specs.Prelude.{ℕ, ◌≡◌, ◌++◌, length}
use Rattle.reply.specs.Reply.{Said}
use Rattle.reply.specs.Bytes.{Bytes, Written}
use Rattle.reply.specs.Outcome.{InTurn, Outcome}
use Rattle.tree.specs.Tree.{Tree}
use Rattle.roll.specs.Roll.{nodes, Roll}
use Rattle.query.specs.Syntax.{Path}
use Rattle.query.specs.Table.{entries, query_of}
use Rattle.query.specs.Fault.{curators, answered, Query, QueryFault}
use Rattle.view.specs.View.{View}
use Rattle.view.specs.Same.{SameOnView}
use Rattle.view.specs.Promise.{Seen, Annotated, AnnotatedFault}

-- Demand 3: on every accepted roll, from every visible node, it reaches exactly what her query reaches on the cut-out view, and no
-- hidden node.
unfoldable pub Faithful : Bytes → Bytes → Path → Path → Type 0
Faithful annotation filters p q =
    (roll : Bytes) (v : Tree) → Roll roll → View (nodes roll) (Seen roll annotation filters) v → SameOnView (nodes roll) (Seen roll annotation filters) v p q

pub record Rewritten (annotation filters query before : Bytes) (c : ℕ) (after : Bytes) : Type 0 where
  -- "The rewritten table begins with the filter table's entries, unchanged. What follows is written behind them."
  pub behind : Bytes
  pub written : Written before (filters ++ behind) after
  pub count : c ≡ length (entries (filters ++ behind))
  -- "1,024 entries and height 128 suffice"
  pub accepted : Query answered (filters ++ behind)
  pub faithful : Faithful annotation filters (query_of (entries (filters ++ behind))) (query_of (entries query))

-- Call 5: "Rewrite; room 6,144 bytes. Takes annotation, filter table and curator's query." "Given accepted inputs it is never refused".
unfoldable pub RewriteGiven : Bytes → Bytes → Bytes → Bytes → Said → Bytes → Type 0
RewriteGiven annotation filters query before said after =
    Outcome 6144
    (Annotated annotation filters × Query curators query)
    (InTurn (Annotated annotation filters) (AnnotatedFault annotation filters) (QueryFault curators query))
    (Rewritten annotation filters query before)
    before said after
