-- `parent_at`: it reads the two bytes in which the parent of record i stands.
use Prim.Native.Nat.{◌+◌, ◌*◌, ◌<◌}
use native.Mathlib.Omega.{arith}
use mathlib.Core.Path.{sym, ◌∙◌}
use lib.ListN.{length}
use Rattle.roll.proofs.Records.{record_inside, parent_bytes, no_record}
use Rattle.roll.proofs.node.parent_at.Goals as goal
use Rattle.roll.proofs.node.parent_at.Goals.{Else-count-i}

-- where the test lets on, the whole record is there
inside : (c : Else-count-i) → let a = c.args in 4 * a.i + 3 < length a.roll.now
inside c = let a = c.args in record_inside a.roll.now a.i (omega arith)

pub returns-then-count-i : goal.returns-then-count-i
returns-then-count-i c = let a = c.args in sym (no_record a.roll.now a.i (omega arith)).1

pub overflow_mul-at : goal.overflow_mul-at
overflow_mul-at c = omega (arith, inside c)

pub overflow_add-at : goal.overflow_add-at
overflow_add-at c = omega (arith, inside c)

pub bounds-roll-at : goal.bounds-roll-at
bounds-roll-at c = omega (arith, inside (goal.at.bounds-roll-at c).Else-count-i)

pub overflow_add-at-2 : goal.overflow_add-at-2
overflow_add-at-2 c = omega (arith, inside (goal.at.overflow_add-at-2 c).Else-count-i)

pub bounds-roll-at-2 : goal.bounds-roll-at-2
bounds-roll-at-2 c = omega (arith, inside (goal.at.bounds-roll-at-2 c).Else-count-i)

pub returns : goal.returns
returns c =
    let a = c.args in
    c.two_bytes.ensures ∙ sym (parent_bytes a.roll.now a.i (omega arith))
