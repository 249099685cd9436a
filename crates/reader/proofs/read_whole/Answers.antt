-- `read_whole`: a text is a path if it is read up to its end, and breaks where something stands behind the path.
use Rattle.reply.proofs.Checking.{met}
use Rattle.reader.proofs.Parsing.{stopped_parses, longer_parses, whole_parses}
use Rattle.reader.proofs.read_whole.Goals as goal

pub returns-in_err-read : goal.returns-in_err-read
returns-in_err-read c = rw (met c.from_residual.ensures.1) (stopped_parses c.in_err-read.ensures)

pub returns-then-read-text : goal.returns-then-read-text
returns-then-read-text c = longer_parses c.if-read-text.true c.in_ok-read.ensures

pub returns : goal.returns
returns c =
    let given = c.requires in
    whole_parses given.0 c.if-read-text.false given.1 c.path.auto.table c.in_ok-read.ensures
