-- `put_spaced`: the space, and the number behind it.
use Rattle.lines.proofs.Putting.{wrote_then}
use Rattle.lines.proofs.Listing.{spaced_one}
use Rattle.lines.proofs.line.Line.put_spaced.Goals as goal

pub returns : goal.returns
returns c = rw (spaced_one c.args.n) (wrote_then c.put_byte.ensures c.put_decimal.ensures)
