-- `gather`. The loop's invariant: the next record is a child, and the word of the records before it is gathered. The measure is how
-- far it is from 65,536, since each link leads on.
use Prim.Native.Nat.{suc, ◌<◌}
use native.Mathlib.Omega.{arith}
use mathlib.Core.Path.{ap}
use borrow.Author.Rules.{rules}
use lib.Seq.{take_all}
use Rattle.tree.specs.Tree.{Child}
use Rattle.roll.specs.Roll.{nodes}
use Rattle.roll.proofs.Deciding.{roll_in_order, roll_most}
use Rattle.links.proofs.Linking.{link_is}
use Rattle.steps.proofs.Reaching.{place, Waits, wait_all, wait_next}
use Rattle.words.proofs.Children.{label_small, gathered_none, gathered_more}
use Rattle.words.proofs.gather.Goals as goal
use Rattle.words.proofs.gather.Goals.{After-link_at-next, In-Some}

-- the child of a turn
child : (c : In-Some) → (c.in-Some.j < 4096) × Child (nodes c.args.roll.now) c.args.i c.in-Some.j
child c = c.loop-next.invariant.0 c.in-Some.j c.in-Some.is

-- behind it, the child that its link leads to waits
waits : (c : After-link_at-next) → Waits (nodes c.args.roll.now) c.args.i (suc c.in-Some.j) c.link_at-next.result
waits c =
    let (low, here) = c.loop-next.invariant.0 c.in-Some.j c.in-Some.is in
    let (right, linked) = c.requires.roll in
    wait_next (roll_in_order right) _ low here (link_is _ (linked.each c.in-Some.j low) c.link_at-next.ensures)

pub first_child-next-requires : goal.first_child-next-requires
first_child-next-requires c =
    let right = c.requires.roll.0 in
    record { roll = right; i_bound = omega (arith, roll_most right) }

pub loop-next-init : goal.loop-next-init
loop-next-init c =
    let waits = wait_all (roll_in_order c.requires.roll.0) _ c.first_child-next.ensures in
    (waits.child, gathered_none waits)

pub overflow_cast-word : goal.overflow_cast-word
overflow_cast-word c = omega (arith, label_small c.requires.roll.0 _ c.label_at.ensures)

pub link_at-next-requires : goal.link_at-next-requires
link_at-next-requires c = omega (arith, (child (goal.at.link_at-next-requires c).In-Some).0)

pub loop-next-smaller : goal.loop-next-smaller
loop-next-smaller c = omega (arith, ap place c.in-Some.is, (waits c).behind, (child (goal.at.loop-next-smaller c).In-Some).0)

pub loop-next-preserved : goal.loop-next-preserved
loop-next-preserved c =
    let here = (child (goal.at.loop-next-preserved c).In-Some).1 in
    let gathered = rw c.in-Some.is at c.loop-next.invariant.1 in
    let most = roll_most c.requires.roll.0 in
    ((waits c).child, rw c.label_at.ensures (gathered_more most (search rules) gathered here (waits c)))

pub returns : goal.returns
returns c =
    let most = roll_most c.requires.roll.0 in
    let gathered = rw c.in_default.is at c.loop-next.invariant.1 in
    rw (take_all 65535 (nodes c.args.roll.now) (omega arith)) at gathered
