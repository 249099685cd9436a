-- The measures of `pass`, `pass_either`, `go_on` and `go_on_alone`, which call each other: the entry number falls; either stands above its
-- two entries, and a star's rounds above their one. Between two rounds of a star `Standing` holds, and less is left with each.
use Prim.Native.Nat.{◌+◌, ◌*◌, max}
use Rattle.query.specs.Table.{entries}
use Rattle.rules.specs.Table.{expression_at}
use Rattle.matching.proofs.Rounds.{Rounds, left}
use Rattle.matching.proofs.Matching.+asking.Given as goal

abbrev pub decreases-go_on : goal.decreases-go_on
decreases-go_on l = 3 * l.e + 1

abbrev pub decreases-go_on_alone : goal.decreases-go_on_alone
decreases-go_on_alone l = 3 * l.e + 2

abbrev pub decreases-pass : goal.decreases-pass
decreases-pass l = 3 * l.e

abbrev pub decreases-pass_either : goal.decreases-pass_either
decreases-pass_either l = 3 * max l.left l.right + 1

abbrev pub invariant-go_on-loop-fresh : goal.invariant-go_on-loop-fresh
invariant-go_on-loop-fresh l =
    Rounds (expression_at (entries l.self.rules.now) l.e) l.self.word.now l.initial.kept l.initial.reached l.initial.set l.kept l.reached l.set l.fresh

abbrev pub decreases-go_on-loop-fresh : goal.decreases-go_on-loop-fresh
decreases-go_on-loop-fresh l = left l.reached l.fresh
