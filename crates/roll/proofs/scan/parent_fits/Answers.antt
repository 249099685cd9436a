-- `parent_fits`: the root's field is compared with its number, any other with the record before it or, where it is
-- smaller, with the parent of what the climb comes to.
use Prim.Native.Nat.{◌-◌}
use native.Mathlib.Omega.{arith}
use Rattle.roll.specs.Roll.{nodes}
use Rattle.roll.proofs.Climbing.{root_test, near_test, far_test}
use Rattle.roll.proofs.scan.parent_fits.Goals as goal

pub returns-then-i-eq0 : goal.returns-then-i-eq0
returns-then-i-eq0 c = (root_test (nodes c.args.roll.now) c.parent_at-parent.ensures c.if-i-eq0.true).exact

pub returns-then-before-parent : goal.returns-then-before-parent
returns-then-before-parent c =
    (near_test (nodes c.args.roll.now) c.parent_at-parent.ensures c.requires (c.args.i - 1) (omega arith) c.if-before-parent.true).exact

pub climb-requires : goal.climb-requires
climb-requires c = record { by_index = λ k l. c.requires k (omega arith); wanted_lt_start = c.if-before-parent.false }

pub returns : goal.returns
returns c =
    (far_test (nodes c.args.roll.now) c.parent_at-parent.ensures c.requires (c.args.i - 1) (omega arith) c.parent_at.ensures c.if-before-parent.false
    c.climb.ensures
    ).exact
