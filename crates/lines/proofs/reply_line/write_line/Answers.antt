-- `write_line`: what is written of the reply, and the line feed behind it.
use mathlib.Core.Path.{refl}
use Rattle.std.proofs.Common.{rules}
use Rattle.lines.proofs.Listing.{ended}
use Rattle.lines.proofs.reply_line.write_line.Goals as goal

pub returns : goal.returns
returns c = ended refl c.put_reply.ensures c.put_byte.ensures (search rules)
