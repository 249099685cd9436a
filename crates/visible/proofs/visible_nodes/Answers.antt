-- `visible_nodes`: links, answers and index are what the pass over the nodes rests on.
use native.Mathlib.Omega.{arith}
use Rattle.visible.proofs.Indexing.{annotation_labelled, records_most}
use Rattle.visible.proofs.Deciding.{shown_visible}
use Rattle.visible.proofs.visible_nodes.Goals as goal

pub index_of-index-requires : goal.index_of-index-requires
index_of-index-requires c =
    let records = c.requires.1.records in
    (annotation_labelled records, records_most records)

pub shown-requires : goal.shown-requires
shown-requires c =
    let (right, annotated) = c.requires in
    (right, λ k r e. omega (arith, c.index_of-index.ensures.most k r e, records_most annotated.records))

pub returns : goal.returns
returns c =
    let (right, annotated) = c.requires in
    shown_visible right annotated c.index_of-index.ensures c.answer-answers.ensures c.shown.ensures
