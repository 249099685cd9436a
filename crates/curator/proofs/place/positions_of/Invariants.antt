-- `positions_of`: after i records, those of them that are members stand at the positions counted so far.
use Rattle.sets.specs.Sets.{In}
use Rattle.curator.proofs.Positions.{Turned}
use Rattle.curator.proofs.place.positions_of.Given as goal

abbrev pub invariant-loop-i : goal.invariant-loop-i
invariant-loop-i l = Turned (In l.shown) l.members l.i l.position l.positions
