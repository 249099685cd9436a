-- `tables::check::check_entries`: the walk comes to the lowest entry that is not in order or too high, or to the end.
use lib.ListN.{length-set}
use native.Mathlib.Omega.{arith}
use Rattle.tree.proofs.Tests.{test_passed, test_failed}
use Rattle.query.specs.Table.{entries, EntryRight}
use Rattle.tables.proofs.Walk.{walk_on, walk_ends, walk_malformed, walk_high}
use Rattle.tables.proofs.check.check_entries.Goals as goal
use Rattle.tables.proofs.check.check_entries.Goals.{Else-not-entry_right}

-- entry i has passed the test
ordered : (c : Else-not-entry_right)
    → EntryRight (entries c.args.table.now) c.loop-i.i
ordered c = test_passed c.entry_right.result c.entry_right.ensures c.if-not-entry_right.false

pub returns-then-not-entry_right : goal.returns-then-not-entry_right
returns-then-not-entry_right c limit same =
    rw c.refuse.ensures (walk_malformed _ c.loop-i.invariant.walked limit same (omega arith)
    (test_failed c.entry_right.result c.entry_right.ensures c.if-not-entry_right.true))

pub returns-then-height-below : goal.returns-then-height-below
returns-then-height-below c limit same =
    rw c.refuse-then-height-below.ensures
    (walk_high _ c.loop-i.invariant.walked limit same (omega arith)
    (ordered (goal.at.returns-then-height-below c).Else-not-entry_right) c.height_below-below.ensures (omega arith))

pub loop-i-preserved : goal.loop-i-preserved
loop-i-preserved c =
    let here = c.loop-i.invariant in
    record {
      counted = here.counted;
      room = simp length-set here.room;
      walked = walk_on here.walked (omega arith) (ordered (goal.at.loop-i-preserved c).Else-not-entry_right) c.height_below-below.ensures (omega arith) (omega arith);
    }

pub returns : goal.returns
returns c limit same = walk_ends _ c.loop-i.invariant.walked limit same (omega arith) c.loop-i.invariant.counted
