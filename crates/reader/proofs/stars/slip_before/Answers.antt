-- `slip_before`: each turn looks at one more star and at the byte before it.
use borrow.Author.Count.{below_more}
use Rattle.reader.proofs.Slips.{star_at, star_bytes}
use Rattle.reader.proofs.stars.slip_before.Goals as goal
use Rattle.reader.proofs.stars.slip_before.Goals.{else-text-at-eq42-via-then-text-at-eq42+else-text-at-eq42-2, else-text-at-eq42-via-else-text-at-eq42}

pub returns-then-text-at-eq42-2 : goal.returns-then-text-at-eq42-2
returns-then-text-at-eq42-2 c =
    (c.loop-at-test.true, star_at _ c.loop-at.auto.at c.if-text-at-eq42.true c.if-text-at-eq42-2.true, c.loop-at.invariant)

pub loop-at-preserved : goal.loop-at-preserved
loop-at-preserved c =
    below_more _ _ c.loop-at.invariant (λ s.
    let (before, here) = star_bytes s in
    elim c.else-text-at-eq42.branch [
      | else-text-at-eq42-via-then-text-at-eq42+else-text-at-eq42-2 w ↦ w.if-text-at-eq42-2.false here
      | else-text-at-eq42-via-else-text-at-eq42 w ↦ w.if-text-at-eq42.false before
    ])
