-- `write_view`. The loop's invariant: the view of the records passed stands in front of the room, and behind it the room
-- is as before.
use native.Mathlib.Omega.{arith}
use mathlib.Core.Path.{◌≡◌, refl}
use lib.ListN.{length}
use Rattle.std.proofs.Common.{rules}
use Rattle.roll.specs.Roll.{nodes}
use Rattle.cutting.proofs.Putting.{rest_more}
use Rattle.cutting.proofs.Scanning.{nothing_scanned, scanned_grows, cut_out}
use Rattle.cutting.proofs.write_view.Goals as goal

pub loop-i-init : goal.loop-i-init
loop-i-init c = record { scanned = nothing_scanned; rest = record { same = refl; long = refl; behind = refl } }

pub loop-i-preserved : goal.loop-i-preserved
loop-i-preserved c =
    let next = c.pass.ensures.scanned_2 in
    let grown = scanned_grows c.loop-i.invariant.scanned next in
    record { scanned = next; rest = rest_more c.loop-i.invariant.rest c.pass.ensures.rest grown }

pub returns : goal.returns
returns c =
    let (right, top, fits) = c.requires in
    let whole = c.loop-i.invariant.scanned in
    let last : c.loop-i.i ≡ length (nodes c.args.roll.now) = omega arith in
    cut_out right fits (rw last at whole) c.loop-i.invariant.rest (search rules)
