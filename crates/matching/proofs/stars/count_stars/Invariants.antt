-- `count_stars`: the stars of one entry after the other.
use mathlib.Core.Path.{◌≡◌}
use lib.ListN.{length}
use Rattle.query.specs.Table.{entries}
use Rattle.matching.specs.Settled.{CountedTo}
use Rattle.matching.proofs.stars.count_stars.Given as goal

abbrev pub invariant-loop-i : goal.invariant-loop-i
invariant-loop-i l = record { room : length l.counts ≡ 256; counted : CountedTo (entries l.rules) l.counts l.i }
