-- `second_fits`: the byte is one of the record's.
use Prim.Native.Nat.{◌+◌, ◌*◌, ◌<◌}
use native.Mathlib.Omega.{arith}
use lib.ListN.{length, get_or}
use Rattle.tree.proofs.Tests.{equal_test}
use Rattle.roll.proofs.Records.{record_inside}
use Rattle.roll.proofs.scan.second_fits.Goals as goal
use Rattle.roll.proofs.scan.second_fits.Goals.{Start}

-- the whole record is there
inside : (c : Start) → 4 * c.args.i + 3 < length c.args.roll.now
inside c = record_inside c.args.roll.now c.args.i c.requires

pub overflow_mul-result : goal.overflow_mul-result
overflow_mul-result c = omega (arith, inside c)

pub overflow_add-result : goal.overflow_add-result
overflow_add-result c = omega (arith, inside c)

pub bounds-roll-i : goal.bounds-roll-i
bounds-roll-i c = omega (arith, inside (goal.at.bounds-roll-i c).Start)

pub returns : goal.returns
returns c = (equal_test (get_or c.args.roll.now (4 * c.args.i + 1) 0) 0).exact
