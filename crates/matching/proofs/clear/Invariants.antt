-- `clear`: the sets that the loop has passed have no member.
use Rattle.matching.specs.Settled.{EmptyTo}
use Rattle.matching.proofs.clear.Given as goal

abbrev pub invariant-loop-set : goal.invariant-loop-set
invariant-loop-set l = EmptyTo l.kept l.set-index
