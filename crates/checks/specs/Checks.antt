-- What each check of an input, or of inputs in turn, says: a count where they are in order, else their fault.
use Rattle.std.specs.Prelude.{ℕ, length}
use Rattle.reply.specs.Reply.{Said}
use Rattle.reply.specs.Bytes.{Bytes}
use Rattle.reply.specs.Outcome.{Lowest, InTurn, Checked}
use Rattle.query.specs.Table.{entries}
use Rattle.query.specs.Fault.{curators, Query, QueryFault}
use Rattle.view.specs.Annotation.{records, RecordRight, RecordFault, Annotation, AnnotationFault}
use Rattle.view.specs.Promise.{Annotated, AnnotatedFault}

-- the check of record i, where the records before it are right
abbrev pub RecordChecked : Bytes → Bytes → ℕ → Said → Type 0
RecordChecked annotation filters i said =
    Checked
    (RecordRight (entries filters) annotation i)
    (Lowest (RecordRight (entries filters) annotation) (RecordFault (entries filters) annotation) (length (records annotation)))
    1 said

-- the check of an annotation against its filter table
abbrev pub AnnotationChecked : Bytes → Bytes → Said → Type 0
AnnotationChecked annotation filters said =
    Checked (Annotation (entries filters) annotation) (AnnotationFault (entries filters) annotation) (length (records annotation)) said

-- the filter table, then the annotation
abbrev pub AnnotatedChecked : Bytes → Bytes → Said → Type 0
AnnotatedChecked annotation filters said =
    Checked (Annotated annotation filters) (AnnotatedFault annotation filters) (length (records annotation)) said

-- both, then the curator's query
abbrev pub AskedChecked : Bytes → Bytes → Bytes → Said → Type 0
AskedChecked annotation filters query said =
    Checked
    (Annotated annotation filters × Query curators query)
    (InTurn (Annotated annotation filters) (AnnotatedFault annotation filters) (QueryFault curators query))
    (length (entries query)) said
