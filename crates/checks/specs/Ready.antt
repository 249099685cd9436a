-- The checks of a call that takes several inputs, in 01's "Order": the room, then each input in turn.
use Rattle.std.specs.Prelude.{ℕ, ◌≤◌, ◌<◌, length}
use Rattle.reply.specs.Reply.{Said}
use Rattle.reply.specs.Bytes.{Bytes}
use Rattle.reply.specs.Outcome.{InTurn, Checked}
use Rattle.roll.specs.Roll.{nodes, Roll, RollFault}
use Rattle.query.specs.Table.{entries}
use Rattle.query.specs.Fault.{curators, answered, Query, QueryFault}
use Rattle.view.specs.Promise.{Annotated, AnnotatedFault}

-- 1, "the output is shorter than the room named": a call must be lent `room` bytes, and is lent `given`.
pub data Short (room given : ℕ) : ℕ → ℕ → Type 0 where
  short : given < room → Short room given 1 0

-- What the checks say before a call does its work: the room comes first, as an input in turn. `size`: what is counted where all is in
-- order.
abbrev pub Ready : ℕ → ℕ → Type 0 → (ℕ → ℕ → Type 0) → ℕ → Said → Type 0
Ready room given Right Fault size said = Checked ((room ≤ given) × Right) (InTurn (room ≤ given) (Short room given) Fault) size said

-- Call 3, "answer on a roll": room 512; the roll, then the query.
unfoldable pub ReadyToAnswer : ℕ → Bytes → Bytes → Said → Type 0
ReadyToAnswer given roll query said =
    Ready 512 given
    (Roll roll × Query answered query)
    (InTurn (Roll roll) (RollFault roll) (QueryFault answered query))
    (length (nodes roll)) said

-- Call 4, "cut out the view": "room as long as the roll"; the roll, then the filter table and the annotation.
unfoldable pub ReadyToCut : ℕ → Bytes → Bytes → Bytes → Said → Type 0
ReadyToCut given roll annotation filters said =
    Ready (length roll) given
    (Roll roll × Annotated annotation filters)
    (InTurn (Roll roll) (RollFault roll) (AnnotatedFault annotation filters))
    (length (nodes roll)) said

-- Call 5, "rewrite": room 6,144; the filter table and the annotation, then the curator's query.
unfoldable pub ReadyToRewrite : ℕ → Bytes → Bytes → Bytes → Said → Type 0
ReadyToRewrite given annotation filters query said =
    Ready 6144 given
    (Annotated annotation filters × Query curators query)
    (InTurn (Annotated annotation filters) (AnnotatedFault annotation filters) (QueryFault curators query))
    (length (entries query)) said

-- Call 6, "curator's answer": room 512; the roll, the filter table and the annotation, then the curator's query.
unfoldable pub ReadyForCurator : ℕ → Bytes → Bytes → Bytes → Bytes → Said → Type 0
ReadyForCurator given roll annotation filters query said =
    Ready 512 given
    (Roll roll × (Annotated annotation filters × Query curators query))
    (InTurn (Roll roll) (RollFault roll)
    (InTurn (Annotated annotation filters) (AnnotatedFault annotation filters) (QueryFault curators query)))
    (length (nodes roll)) said
