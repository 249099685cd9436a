-- `positions_of`: after i records, those of them that are members stand at the positions counted so far.
use native.Mathlib.Omega.{arith}
use Rattle.curator.proofs.Positions.{none_turned, turned_most, hidden_turned, others_turned, member_turned}
use Rattle.curator.proofs.place.positions_of.Goals as goal
use Rattle.curator.proofs.place.positions_of.Goals.{then-has, then-has-2, else-has-2, else-has}

pub loop-i-init : goal.loop-i-init
loop-i-init c = none_turned c.empty-positions.ensures

pub add-requires : goal.add-requires
add-requires c =
    let turned = c.loop-i.invariant in
    omega (arith, turned_most turned)

pub overflow_add-position : goal.overflow_add-position
overflow_add-position c =
    let turned = c.loop-i.invariant in
    omega (arith, turned_most turned)

pub loop-i-preserved : goal.loop-i-preserved
loop-i-preserved c =
    let turned = c.loop-i.invariant in
    elim c.if-has.branch [
      | then-has w ↦
          let s = c.has.ensures.0 (rw w.if-has.true tt) in
          elim w.if-has-2.branch [
            | then-has-2 v ↦
                rw (w.position-is, w.positions-is, v.positions-is)
                (member_turned turned s (w.has-then-has.ensures.0 (rw v.if-has-2.true tt)) v.add.ensures)
            | else-has-2 v ↦
                rw (w.position-is, w.positions-is, v.positions-is)
                (others_turned turned s (λ m. rw v.if-has-2.false at (w.has-then-has.ensures.1 m)))
          ]
      | else-has w ↦ rw (w.position-is, w.positions-is) (hidden_turned turned (λ m. rw w.if-has.false at (c.has.ensures.1 m)))
    ]
