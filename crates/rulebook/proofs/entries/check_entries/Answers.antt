-- `rulebook::entries::check_entries`: the walk comes to the lowest entry that is not in order or too high, or to the end.
use Prim.Native.Nat.{◌+◌}
use mathlib.Core.Path.{◌≡◌}
use lib.ListN.{length-set}
use native.Mathlib.Omega.{arith}
use Rattle.query.specs.Table.{entries}
use Rattle.rules.specs.Table.{expression_at, height}
use Rattle.rules.proofs.Standing.{in_order}
use Rattle.rulebook.proofs.Heights.{own_height}
use Rattle.rulebook.proofs.Walk.{all_fit, misfit, walk_on}
use Rattle.rulebook.proofs.entries.check_entries.Goals as goal
use Rattle.rulebook.proofs.entries.check_entries.Goals.{After-height_below-below}

pub returns-in_default : goal.returns-in_default
returns-in_default c =
    misfit c.loop-i.invariant.walked.fits (omega arith) (λ fits. c.in_default.ensures fits.right) c.refuse.ensures

-- its height is found from those of its operands
own : (c : After-height_below-below) → c.height_below-below.result + 1 ≡ height (expression_at (entries c.args.rules.now) c.loop-i.i)
own c =
    let here = c.loop-i.invariant in
    own_height (omega arith) c.in-Some.ensures (c.height_below-below.ensures (entries c.args.rules.now) here.walked.known)

pub returns-then-below-ge-RULE_HEIGHT : goal.returns-then-below-ge-RULE_HEIGHT
returns-then-below-ge-RULE_HEIGHT c =
    misfit c.loop-i.invariant.walked.fits (omega arith)
    (λ fits. omega (arith, fits.low, own (goal.at.returns-then-below-ge-RULE_HEIGHT c).After-height_below-below)) c.refuse-then-below-ge-RULE_HEIGHT.ensures

pub loop-i-preserved : goal.loop-i-preserved
loop-i-preserved c =
    let here = c.loop-i.invariant in
    record {
      counted = here.counted;
      room = simp length-set here.room;
      walked = walk_on here.walked (in_order c.in-Some.ensures) (own (goal.at.loop-i-preserved c).After-height_below-below) (omega arith) (omega arith);
    }

pub returns : goal.returns
returns c = let here = c.loop-i.invariant in all_fit here.walked.fits (omega arith) here.counted
