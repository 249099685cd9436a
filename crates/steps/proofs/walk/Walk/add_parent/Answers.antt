-- `add_parent`: a record behind the root has one parent, and the root has none.
use native.Mathlib.Omega.{arith}
use mathlib.Core.Path.{sym}
use Rattle.tree.specs.Tree.{Child}
use Rattle.tree.proofs.Order.{child_less}
use Rattle.roll.specs.Roll.{nodes}
use Rattle.roll.proofs.Deciding.{roll_in_order, roll_most}
use Rattle.steps.proofs.walk.Walk.add_parent.Goals as goal
use Rattle.steps.proofs.walk.Walk.add_parent.Goals.{After-parent_at}

-- past the tests, i is a child
child : (c : After-parent_at) → let a = c.args in
    Child (nodes a.self.now.roll.now) c.parent_at.result a.i
child c = record { later = omega arith; node = omega arith; parent = sym c.parent_at.ensures }

pub add-requires : goal.add-requires
add-requires c =
    let d = child c in
    let less = child_less (nodes c.args.self.now.roll.now) (roll_in_order c.requires.0) d in
    omega (arith, roll_most c.requires.0, d.node)
