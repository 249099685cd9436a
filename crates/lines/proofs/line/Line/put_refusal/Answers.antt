-- `put_refusal`: behind the number the place.
use native.Mathlib.Omega.{arith}
use mathlib.Core.List.{[], ◌∷◌}
use Rattle.lines.specs.Put.{unended}
use Rattle.lines.proofs.Listing.{wrote_numbers}
use Rattle.lines.proofs.line.Line.put_refusal.Goals as goal

pub returns : goal.returns
unfolding unended
returns c = record {
  wrote = wrote_numbers (c.args.number ∷ []) (c.args.place ∷ []) c.put_head.ensures.0 c.put_number.ensures.0;
  room = omega arith;
}
