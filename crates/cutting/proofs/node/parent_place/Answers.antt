-- `parent_place`: the root has none, and any other parent is a record before its child, whose place is known.
use Prim.Native.Nat.{◌<◌}
use native.Mathlib.Omega.{arith}
use Rattle.tree.proofs.Order.{parent_smaller}
use Rattle.roll.specs.Roll.{nodes}
use Rattle.roll.proofs.Deciding.{roll_in_order, roll_most}
use Rattle.cutting.specs.Scan.{root, later}
use Rattle.cutting.proofs.node.parent_place.Goals as goal
use Rattle.cutting.proofs.node.parent_place.Goals.{After-parent_at}

-- the parent is one of 4,096 records
parent_low : (c : After-parent_at) → c.parent_at.result < 4096
parent_low c =
    let (right, node) = c.requires in
    let behind : 0 < c.args.i = omega arith in
    let less = parent_smaller (nodes c.args.roll.now) (roll_in_order right) c.args.i behind node in
    let most = roll_most right in
    rw c.parent_at.ensures (omega arith)

pub returns-then-i-eq0 : goal.returns-then-i-eq0
returns-then-i-eq0 c = (root c.if-i-eq0.true, omega arith)

pub offset_bounds-places-parent_at : goal.offset_bounds-places-parent_at
offset_bounds-places-parent_at c = omega (arith, parent_low c)

pub bounds-places-parent_at : goal.bounds-places-parent_at
bounds-places-parent_at c = omega (arith, parent_low (goal.at.bounds-places-parent_at c).After-parent_at)

pub returns : goal.returns
returns c =
    let behind : 0 < c.args.i = omega arith in
    let place = c.fits-places c.parent_at.result in
    rw c.from.ensures (rw c.parent_at.ensures (later behind), place)
