-- `shown`. The loop's invariant: of the nodes passed, the set has those that are shown.
use native.Mathlib.Omega.{arith}
use mathlib.Core.Path.{◌≡◌}
use lib.ListN.{length}
use Rattle.roll.specs.Roll.{nodes}
use Rattle.roll.proofs.Deciding.{roll_root, roll_most}
use Rattle.visible.proofs.Showing.{all_shown}
use Rattle.visible.proofs.shown.shown.Goals as goal

pub add-requires : goal.add-requires
add-requires c = omega (arith, roll_most c.requires.0)

pub returns : goal.returns
returns c =
    let last : c.loop-i.i ≡ length (nodes c.args.roll.now) = omega arith in
    all_shown _ _ _ (roll_root c.requires.0) (rw last at c.loop-i.invariant)
