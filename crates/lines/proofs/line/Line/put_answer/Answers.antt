-- `put_answer`: behind the count at most five bytes for each position.
use native.Mathlib.Omega.{arith}
use mathlib.Core.List.{[], ◌∷◌}
use Rattle.lines.specs.Line.{positions}
use Rattle.lines.specs.Put.{unended}
use Rattle.lines.proofs.Listing.{wrote_numbers, listed_end}
use Rattle.lines.proofs.line.Line.put_answer.Goals as goal

pub returns : goal.returns
unfolding unended
returns c =
    let map = c.args.map.now in
    let listed = c.put_positions.ensures in
    record {
      wrote = wrote_numbers (c.args.n ∷ []) (positions map 4096) c.put_head.ensures.0 listed;
      room = omega (arith, listed_end map 4096 (omega arith) listed, c.put_head.ensures.1);
    }
