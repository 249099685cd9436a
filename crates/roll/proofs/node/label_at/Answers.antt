-- `label_at`: it reads the byte in which the label of record i stands.
use Prim.Native.Nat.{◌+◌, ◌*◌, ◌<◌}
use native.Mathlib.Omega.{arith}
use mathlib.Core.Path.{sym, ◌∙◌}
use lib.ListN.{length}
use Rattle.roll.proofs.Records.{record_inside, label_byte, no_record}
use Rattle.roll.proofs.node.label_at.Goals as goal
use Rattle.roll.proofs.node.label_at.Goals.{Else-count-i}

-- where the test lets on, the whole record is there
inside : (c : Else-count-i) → let a = c.args in 4 * a.i + 3 < length a.roll.now
inside c = let a = c.args in record_inside a.roll.now a.i (omega arith)

pub returns-then-count-i : goal.returns-then-count-i
returns-then-count-i c = let a = c.args in sym (no_record a.roll.now a.i (omega arith)).0

pub overflow_mul-i : goal.overflow_mul-i
overflow_mul-i c = omega (arith, inside c)

pub bounds-roll-i : goal.bounds-roll-i
bounds-roll-i c = omega (arith, inside (goal.at.bounds-roll-i c).Else-count-i)

pub returns : goal.returns
returns c =
    let a = c.args in
    c.from.ensures ∙ sym (label_byte a.roll.now a.i (omega arith))
