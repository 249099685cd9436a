-- `answer_lines`: what was read so far is answered.
use Rattle.draw.proofs.Drawing.{at_first, no_line, one_line}
use Rattle.draw.proofs.line.Archive.answer_lines.Goals as goal

pub loop-out-init : goal.loop-out-init
loop-out-init c = at_first _ _

pub loop-out-preserved : goal.loop-out-preserved
loop-out-preserved c = one_line c.loop-out.invariant c.in-Some.ensures c.answer_line-written.ensures

pub returns-in_default : goal.returns-in_default
returns-in_default c = no_line c.loop-out.invariant c.in_default.ensures
