-- `end_of`. The loop's invariant: the records passed behind k have their parents at k or behind it.
use Prim.Native.Nat.{◌<◌}
use native.Mathlib.Omega.{arith}
use borrow.Author.Count.{below_more}
use mathlib.Core.Path.{◌≡◌}
use lib.ListN.{length}
use Rattle.tree.specs.Tree.{parent_at, RunEnds}
use Rattle.tree.proofs.Runs.{run_ends_at}
use Rattle.roll.specs.Roll.{nodes}
use Rattle.roll.proofs.Deciding.{roll_in_order}
use Rattle.roll.proofs.run.end_of.Goals as goal
use Rattle.roll.proofs.run.end_of.Goals.{At-loop-j}

-- a record that has been come to ends the run if its parent comes before k, or if it is behind the last one
ends : (c : At-loop-j)
    → let a = c.args in
    let t = nodes a.roll.now in
    (c.loop-j.j < length t → parent_at t c.loop-j.j < a.k) → RunEnds t a.k c.loop-j.j
ends c stop =
    run_ends_at (nodes c.args.roll.now) (roll_in_order c.requires.roll) c.requires.k_in_bounds (omega arith) (omega arith) c.loop-j.invariant stop

pub loop-j-init : goal.loop-j-init
loop-j-init c m l g = absurd (omega arith)

pub returns-then-parent_at-k : goal.returns-then-parent_at-k
returns-then-parent_at-k c = ends (goal.at.returns-then-parent_at-k c).At-loop-j (λ l. omega arith)

pub loop-j-preserved : goal.loop-j-preserved
loop-j-preserved c = below_more _ _ c.loop-j.invariant (λ l. omega arith)

pub returns : goal.returns
returns c =
    let e : c.count-n.result ≡ c.loop-j.j = omega arith in
    rw e (ends (goal.at.returns c).At-loop-j (λ l. absurd (omega arith)))
