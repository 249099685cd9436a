-- `sets::merge::merge_into`: the words before i are merged, and the others stand as before.
use Prim.Native.Nat.{ℕ}
use native.Mathlib.Nat.{le_refl}
use native.Mathlib.Omega.{arith}
use lib.ListN.{get_or}
use Rattle.sets.proofs.Words.{none_made, one_made}
use Rattle.sets.proofs.merge.merge_into.Goals as goal

pub loop-i-init : goal.loop-i-init
loop-i-init g c = none_made _

pub loop-i-preserved : goal.loop-i-preserved
loop-i-preserved g c =
    let args = c.args in
    let before = c.loop-i.invariant in
    let C : ℕ → ℕ → Type 0 = λ j v. g.F.Fn.post args.how (get_or args.set.now j 0, (get_or args.other.now j 0, tt)) v in
    one_made {C = C} {v = c.how.result} before (omega arith) (rw (before.rest c.loop-i.i (le_refl _)) at c.how.ensures)

pub returns : goal.returns
returns g c j l = c.loop-i.invariant.made j (omega arith)
