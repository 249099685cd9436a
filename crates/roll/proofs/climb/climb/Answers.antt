-- `climb`. The loop's invariant: the climb has come to a record behind the one wanted, on the way from its start
-- upwards. The measure is the record's number, since parents are smaller.
use Prim.Native.Nat.{suc}
use native.Mathlib.Omega.{arith}
use Rattle.tree.specs.Tree.{here}
use Rattle.roll.specs.Roll.{nodes}
use Rattle.roll.proofs.Climbing.{in_order_to, climb_step, climb_less}
use Rattle.roll.proofs.climb.climb.Goals as goal

pub loop-parent-init : goal.loop-parent-init
loop-parent-init c = (here, c.requires.wanted_lt_start, c.parent_at-parent.ensures)

pub loop-parent-smaller : goal.loop-parent-smaller
loop-parent-smaller c =
    let t = nodes c.args.roll.now in
    let start = c.args.start in
    let o = in_order_to t (suc start) (λ k l. c.requires.by_index k (omega arith)) in
    omega (arith, climb_less t start o c.loop-parent.invariant.0 (omega arith))

pub loop-parent-preserved : goal.loop-parent-preserved
loop-parent-preserved c =
    let t = nodes c.args.roll.now in
    let (a, behind, e) = c.loop-parent.invariant in
    (rw (← e) at (climb_step t a (omega arith)), c.loop-parent-test.true, c.parent_at-parent-in-loop-parent.ensures)

pub returns : goal.returns
returns c = let (a, behind, e) = c.loop-parent.invariant in (a, behind, omega arith)
