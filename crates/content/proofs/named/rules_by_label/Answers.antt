-- `rules_by_label`: the table is right for the list records that have been passed.
use Prim.Native.Nat.{suc, ◌+◌}
use native.Mathlib.Omega.{arith}
use mathlib.Core.Path.{◌≡◌}
use Rattle.content.proofs.Naming.{named_none, named_more}
use Rattle.content.proofs.named.rules_by_label.Goals as goal

pub loop-k-init : goal.loop-k-init
loop-k-init c = named_none

pub loop-k-preserved : goal.loop-k-preserved
loop-k-preserved c =
    let next : c.loop-k.k + 1 ≡ suc c.loop-k.k = omega arith in
    rw (c.label_at.ensures, c.parent_at.ensures, next) (named_more (c.requires c.loop-k.k (omega arith)) c.loop-k.invariant)
