-- `put_positions`: the positions before this one are written, at most five bytes for each.
use native.Mathlib.Omega.{arith}
use Rattle.lines.specs.Line.{spaced, positions}
use Rattle.lines.proofs.Putting.{wrote_none}
use Rattle.lines.proofs.Listing.{position_digits, listed_end, list_one, wrote_chosen, wrote_unchosen}
use Rattle.lines.proofs.line.Line.put_positions.Goals.{then-is_in, else-is_in}
use Rattle.lines.proofs.line.Line.put_positions.Goals as goal

pub loop-k-init : goal.loop-k-init
unfolding spaced positions
loop-k-init c = wrote_none _ (omega (arith, c.requires))

pub put_spaced-requires : goal.put_spaced-requires
put_spaced-requires c =
    let k = c.loop-k.k in
    let few = listed_end c.args.map.now k c.loop-k.auto.k-end c.loop-k.invariant in
    omega (arith, c.requires, c.loop-k.invariant.long, position_digits)

pub loop-k-preserved : goal.loop-k-preserved
loop-k-preserved c =
    let map = c.args.map.now in
    let k = c.loop-k.k in
    list_one map k c.loop-k.invariant (elim c.if-is_in.branch [
      | then-is_in w ↦ rw w.self-is (wrote_chosen map k c.is_in.ensures w.if-is_in.true w.put_spaced.ensures)
      | else-is_in w ↦ rw w.self-is (wrote_unchosen map k c.loop-k.self c.is_in.ensures w.if-is_in.false (omega arith))
    ])
