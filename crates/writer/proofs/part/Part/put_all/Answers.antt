-- `put_all`. The loop's invariant: the entries passed are written.
use native.Mathlib.Nat.{le_of_lt}
use native.Mathlib.Omega.{arith}
use mathlib.Core.Path.{refl}
use Rattle.writer.specs.Laid.{as_entry}
use Rattle.writer.proofs.Laying.{lays_none, lays_next, lays_front}
use Rattle.writer.proofs.part.Part.put_all.Goals as goal

pub loop-own-init : goal.loop-own-init
loop-own-init c = lays_none _

pub put-requires : goal.put-requires
put-requires c =
    let so_far = c.loop-own.invariant in
    record { fits = omega (arith, c.requires.fits, lays_front as_entry c.args.entries.now (le_of_lt c.loop-own-test.true) so_far) }

pub loop-own-preserved : goal.loop-own-preserved
loop-own-preserved c = lays_next as_entry c.args.entries.now _ c.loop-own-test.true c.loop-own.invariant refl c.put.ensures
