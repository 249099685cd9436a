-- `kepolas_run_of`: an empty part is told as 0, 0, any other from the record's first byte on.
use Rattle.std.proofs.Common.{arith}
use Rattle.kepolas.proofs.Parts.{full_place, empty_place}
use Rattle.kepolas.proofs.kepolas_run_of.Goals.{then-size-eq0, else-size-eq0}
use Rattle.kepolas.proofs.kepolas_run_of.Goals as goal

pub overflow_mul-start : goal.overflow_mul-start
overflow_mul-start c =
    let part = full_place c.run_of-size.ensures (omega (arith, c.if-size-eq0.false)) in
    omega arith

pub overflow_add-end : goal.overflow_add-end
overflow_add-end c = elim c.if-size-eq0.branch [
  | then-size-eq0 w ↦ rw w.start-is (omega (arith, w.if-size-eq0.true))
  | else-size-eq0 w ↦
      let part = full_place c.run_of-size.ensures (omega (arith, w.if-size-eq0.false)) in
      rw w.start-is (omega (arith, part.1))
]

pub returns : goal.returns
returns c = elim c.if-size-eq0.branch [
  | then-size-eq0 w ↦
      let none = w.if-size-eq0.true in
      empty_place c.run_of-size.ensures none w.start-is (omega (arith, w.start-is))
  | else-size-eq0 w ↦ rw w.start-is (full_place c.run_of-size.ensures (omega (arith, w.if-size-eq0.false))).0
]
