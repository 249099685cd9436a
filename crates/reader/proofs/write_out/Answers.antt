-- `write_out`: a table that is a curator's query is copied out, and any other is too large.
use mathlib.Core.Path.{refl}
use lib.Seq.{take-length}
use Rattle.reader.proofs.Answering.{written_out, refused_out}
use Rattle.reader.proofs.write_out.Goals as goal

pub returns-in_default : goal.returns-in_default
returns-in_default c = refused_out _ c.in_default.ensures c.refuse.ensures

pub returns : goal.returns
returns c =
    written_out _ c.in-Ok.is c.check_query.ensures c.requires (rw (c.copy_from_slice.ensures.after, take-length) refl)
