-- `first_child`: a node with a child has its first child right behind it.
use Prim.Native.Nat.{◌+◌, ◌<◌}
use native.Mathlib.Omega.{arith}
use mathlib.Core.Path.{◌≡◌}
use Rattle.tree.specs.Tree.{parent_at}
use Rattle.roll.specs.Roll.{nodes}
use Rattle.roll.proofs.Deciding.{roll_in_order, roll_most}
use Rattle.steps.proofs.Reaching.{first_behind, no_first}
use Rattle.steps.proofs.reach.first_child.Goals as goal

pub returns-then-count-first : goal.returns-then-count-first
returns-then-count-first c = no_first (roll_in_order c.requires.roll) (λ d. let l = d.node in omega arith)

pub returns-then-parent_at-i : goal.returns-then-parent_at-i
returns-then-parent_at-i c =
    let t = nodes c.args.roll.now in
    let i = c.args.i in
    let parent : parent_at t (i + 1) ≡ i = omega (arith, c.parent_at.ensures) in
    let low : i + 1 < 4096 = omega (arith, roll_most c.requires.roll) in
    (low, first_behind (roll_in_order c.requires.roll) (record { later = omega arith; node = omega arith; parent = parent }))

pub returns : goal.returns
returns c = no_first (roll_in_order c.requires.roll) (λ d. omega (arith, c.parent_at.ensures, d.parent))
