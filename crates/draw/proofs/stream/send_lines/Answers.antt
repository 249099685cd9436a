-- `send_lines`: it goes on until no line ends behind what is answered.
use native.Mathlib.Omega.{arith}
use Rattle.draw.proofs.Drawing.{none_behind, at_the_end}
use Rattle.draw.proofs.stream.send_lines.Goals as goal

pub returns-after-loop-at : goal.returns-after-loop-at
returns-after-loop-at c = (c.loop-at.invariant.0, at_the_end _ _ c.loop-at-test.false)

pub returns-then-done-eq0 : goal.returns-then-done-eq0
returns-then-done-eq0 c =
    let room = c.requires in (
      c.loop-at.invariant.0,
      none_behind c.args.input.now c.loop-at.at c.answer_lines-done.ensures c.if-done-eq0.true
          (omega (arith, c.answer_lines-done.auto.out, c.loop-at.invariant.1)),
    )
