-- `previous_of`: neither the root, nor a number that is not in the roll, nor the record right behind its parent
-- has a previous sibling. Any other record has the one that the climb comes to.
use Prim.Native.Nat.{◌-◌, ◌<◌}
use native.Mathlib.Omega.{arith}
use mathlib.Core.Path.{sym}
use Rattle.tree.specs.Tree.{Child}
use Rattle.tree.proofs.Order.{child_less}
use Rattle.roll.specs.Roll.{nodes}
use Rattle.roll.proofs.Deciding.{roll_in_order}
use Rattle.roll.proofs.Climbing.{climb_previous, behind_parent_first}
use Rattle.roll.proofs.previous.previous_of.Goals as goal
use Rattle.roll.proofs.previous.previous_of.Goals.{After-parent_at-parent, Else-parent-before}

-- past the first two tests, j is a child
child : (c : After-parent_at-parent) → let a = c.args in Child (nodes a.roll.now) c.parent_at-parent.result a.j
child c = record { later = omega arith; node = omega arith; parent = sym c.parent_at-parent.ensures }

-- past the third, its parent comes before the record before it
apart : (c : Else-parent-before) → c.parent_at-parent.result < c.args.j - 1
apart c =
    let child : (let a = c.args in Child (nodes a.roll.now) c.parent_at-parent.result a.j) = record { later = omega arith; node = omega arith; parent = sym c.parent_at-parent.ensures } in
    let l = child_less (nodes c.args.roll.now) (roll_in_order c.requires) child in
    omega arith

pub returns-then-parent-before : goal.returns-then-parent-before
returns-then-parent-before c =
    behind_parent_first (nodes c.args.roll.now) (roll_in_order c.requires) (omega arith) (child (goal.at.returns-then-parent-before c).After-parent_at-parent)

pub climb-requires : goal.climb-requires
climb-requires c = record { by_index = λ k h. (c.requires.node k (omega arith)).parent; wanted_lt_start = apart c }

pub returns : goal.returns
returns c =
    climb_previous (nodes c.args.roll.now) (roll_in_order c.requires) (omega arith) (child (goal.at.returns c).After-parent_at-parent) (apart (goal.at.returns c).Else-parent-before) c.climb.ensures
