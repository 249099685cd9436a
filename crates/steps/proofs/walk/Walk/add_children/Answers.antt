-- `add_children`. The loop's invariant: the next child is a record, and the children before it are added.
use Prim.Native.Nat.{suc, zero-le, ◌<◌}
use native.Mathlib.Omega.{arith}
use mathlib.Core.Path.{ap}
use Rattle.tree.specs.Tree.{Child}
use Rattle.roll.specs.Roll.{nodes}
use Rattle.roll.proofs.Deciding.{roll_in_order, roll_most}
use Rattle.links.proofs.Linking.{link_is}
use Rattle.steps.proofs.Adding.{added_same, added_nothing, added_more}
use Rattle.steps.proofs.Reaching.{place, Waits, wait_all, wait_next, passed}
use Rattle.steps.proofs.walk.Walk.add_children.Goals as goal
use Rattle.steps.proofs.walk.Walk.add_children.Goals.{In-Some, After-link_at-next}

-- the child of a turn
child : (c : In-Some) → (c.in-Some.j < 4096) × Child (nodes c.args.self.now.roll.now) c.args.i c.in-Some.j
child c = c.loop-next.invariant.0 c.in-Some.j c.in-Some.is

-- the next one waits when it is added
waits : (c : After-link_at-next) → Waits (nodes c.args.self.now.roll.now) c.args.i (suc c.in-Some.j) c.link_at-next.result
waits c =
    let (low, here) = c.loop-next.invariant.0 c.in-Some.j c.in-Some.is in
    let (roll, links) = c.requires.roll in
    wait_next (roll_in_order roll) _ low here (link_is _ (links.onwards.each c.in-Some.j low) c.link_at-next.ensures)

pub loop-next-init : goal.loop-next-init
loop-next-init c =
    let waits = wait_all (roll_in_order c.requires.roll.0) _ c.first_child-next.ensures in
    (waits.child, added_nothing (λ k (d, l). let first = waits.first k d zero-le in omega arith))

pub add-requires : goal.add-requires
add-requires c = (child (goal.at.add-requires c).In-Some).0

pub link_at-next-requires : goal.link_at-next-requires
link_at-next-requires c = omega (arith, (child (goal.at.link_at-next-requires c).In-Some).0)

pub loop-next-smaller : goal.loop-next-smaller
loop-next-smaller c = omega (arith, ap place c.in-Some.is, (waits c).behind, (child (goal.at.loop-next-smaller c).In-Some).0)

pub loop-next-preserved : goal.loop-next-preserved
loop-next-preserved c =
    let here = (child (goal.at.loop-next-preserved c).In-Some).1 in
    ((waits c).child, added_more (passed here (waits c)) (rw c.in-Some.is at c.loop-next.invariant.1) c.add.ensures)

pub returns : goal.returns
returns c =
    let most = roll_most c.requires.roll.0 in
    added_same (λ k. (λ (d, l). d, λ d. let l = d.node in (d, omega arith))) (rw c.in_default.is at c.loop-next.invariant.1)
