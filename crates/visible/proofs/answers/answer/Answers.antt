-- `answer`. The loop's invariant: the records passed are answered.
use Prim.Native.Nat.{◌<◌}
use native.Mathlib.Omega.{arith}
use lib.ListN.{length-set}
use Rattle.visible.proofs.Indexing.{records_most}
use Rattle.visible.proofs.Answering.{answers_same, answers_more}
use Rattle.visible.proofs.answers.answer.Goals as goal
use Rattle.visible.proofs.answers.answer.Goals.{After-first_named, then-first_named-r, else-first_named-r}

-- a record is one of 32
low : (c : After-first_named) → c.loop-r.r < 32
low c = omega (arith, records_most c.requires.1.records)

pub offset_bounds-answers-r : goal.offset_bounds-answers-r
offset_bounds-answers-r c = omega (arith, low (goal.at.offset_bounds-answers-r c).After-first_named)

pub bounds-answers-r : goal.bounds-answers-r
bounds-answers-r c = low (goal.at.bounds-answers-r c).After-first_named

pub loop-r-preserved : goal.loop-r-preserved
loop-r-preserved c =
    let size = c.loop-r.invariant.size in
    let so_far = c.loop-r.invariant.so_far in
    let small = low (goal.at.loop-r-preserved c).After-first_named in
    elim c.if-first_named-r.branch [
      | then-first_named-r w ↦
          rw w.answers-is (record {
            size = simp length-set size;
            so_far = answers_more (omega arith) (rw w.record_at-own.ensures.filter at w.nodes_where.ensures) so_far;
          })
      | else-first_named-r w ↦
          rw w.answers-is (record { size = size; so_far = answers_same c.first_named.ensures w.if-first_named-r.false so_far })
    ]
