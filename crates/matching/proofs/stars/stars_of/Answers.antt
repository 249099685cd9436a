-- `stars_of`: an entry has the stars of its operands, and a star one more, but at most 32.
use Prim.Native.Nat.{ℕ}
use native.Mathlib.Omega.{arith}
use mathlib.Core.Path.{◌≡◌}
use Rattle.query.specs.Table.{entries}
use Rattle.rules.specs.Table.{expression_at}
use Rattle.matching.specs.Settled.{stars}
use Rattle.matching.proofs.Counting.{known_few, both_before, summed, summed_up, of_none, of_two}
use Rattle.matching.proofs.stars.stars_of.Goals as goal
use Rattle.matching.proofs.stars.stars_of.Goals.{After-right_at}

own : (c : After-right_at) {n : ℕ}
    → let a = c.args in
    n ≡ summed a.counts.now c.right_at.result → n ≡ stars (expression_at (entries a.rules.now) a.i)
own c =
    let a = c.args in
    summed_up (entries a.rules.now) a.counts.now a.i c.requires.counted_to c.requires.i_in_bounds.0 c.right_at.ensures

pub right_at-requires : goal.right_at-requires
right_at-requires c = ∣ c.requires.entry_right ∣₁

pub overflow_add-counts : goal.overflow_add-counts
overflow_add-counts c =
    let a = c.args in
    omega (arith, known_few (entries a.rules.now) a.counts.now a.i c.requires.counted_to (c.in-Star.ensures).right)

pub overflow_add-counts-in-Then : goal.overflow_add-counts-in-Then
overflow_add-counts-in-Then c =
    let a = c.args in
    let es = entries a.rules.now in
    let (l, r) = both_before c.right_at.ensures c.in-Then.is in
    let known = c.requires.counted_to in
    omega (arith, known_few es a.counts.now a.i known l, known_few es a.counts.now a.i known r)

pub returns-in-Empty : goal.returns-in-Empty
returns-in-Empty c = own (goal.at.returns-in-Empty c).After-right_at (of_none c.args.counts.now c.in-Empty.is)

pub returns-in-Star : goal.returns-in-Star
returns-in-Star c = own (goal.at.returns-in-Star c).After-right_at (rw c.in-Star.is c.min.ensures)

pub returns-in-Then : goal.returns-in-Then
returns-in-Then c = own (goal.at.returns-in-Then c).After-right_at (of_two c.args.counts.now c.in-Then.is c.min-in-Then.ensures)
