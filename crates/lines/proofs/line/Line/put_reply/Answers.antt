-- `put_reply`: a count is written with its positions, a refusal with its number from the list.
use Rattle.lines.proofs.Listing.{refused_begun}
use Rattle.lines.proofs.line.Line.put_reply.Goals as goal

pub returns-in-Err : goal.returns-in-Err
returns-in-Err c = refused_begun c.in-Err.is c.number_of.ensures c.put_refusal.ensures
