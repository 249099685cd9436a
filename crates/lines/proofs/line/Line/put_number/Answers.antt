-- `put_number`: a number of the machine has at most 20 digits.
use native.Mathlib.Omega.{arith}
use Rattle.lines.proofs.Listing.{spaced_length, spaced_number}
use Rattle.lines.proofs.line.Line.put_number.Goals as goal

pub put_spaced-requires : goal.put_spaced-requires
put_spaced-requires c =
    let few = spaced_number c.args.n c.ranges.n.fits in
    omega (arith, spaced_length c.args.n)

pub returns : goal.returns
returns c =
    let few = spaced_number c.args.n c.ranges.n.fits in
    (c.put_spaced.ensures, omega (arith, c.put_spaced.ensures.put.end))
