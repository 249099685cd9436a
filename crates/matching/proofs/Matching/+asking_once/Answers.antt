-- `pass_once` and `either_once`: operands are asked in their turn, an entry that is named twice once, and a star with sets that were
-- cleared for it.
use Prim.Native.Nat.{◌≤◌}
use native.Mathlib.Omega.{arith}
use mathlib.Core.Path.{◌≡◌, sym, ap, subst}
use mathlib.Core.List.{◌++◌}
use lib.ListN.{length, take, drop}
use Rattle.query.specs.Table.{entries}
use Rattle.rules.specs.Table.{expression_at}
use Rattle.matching.specs.Settled.{Cleared}
use Rattle.matching.proofs.Settling.{from_cleared}
use Rattle.matching.proofs.Keeping.{first_back}
use Rattle.rules.proofs.Standing.{is_meant}
use Rattle.matching.proofs.Passing.{once_then, once_either, once_same}
use Rattle.matching.proofs.Matching.+asking_once.Goals as goal

-- ---- either of two entries

pub either_once-returns-then-left-right : goal.either_once-returns-then-left-right
either_once-returns-then-left-right t c =
    once_either c.pass_once.ensures c.pass_once-then-left-right.ensures c.add_front.ensures

-- one entry, named twice
pub either_once-returns-else-left-right : goal.either_once-returns-else-left-right
either_once-returns-else-left-right t c =
    let same : c.args.left ≡ c.args.right = omega arith in
    once_same (ap (expression_at (entries c.args.self.now.rules.now)) same) c.pass_once.ensures

-- ---- an arm for each kind

-- one after another
pub pass_once-returns-in-Then : goal.pass_once-returns-in-Then
pass_once-returns-in-Then t c =
    rw (is_meant _ _ c.requires.entry c.in-Then.ensures) (once_then c.pass_once.ensures c.pass_once-in-Then.ensures)

-- either
pub pass_once-returns-in-Either : goal.pass_once-returns-in-Either
pass_once-returns-in-Either t c = rw (is_meant _ _ c.requires.entry c.in-Either.ensures) c.either_once.ensures

-- all others: so many sets are cleared for them, and those in front are the ones that are lent again
pub pass_once-returns-in_default : goal.pass_once-returns-in_default
pass_once-returns-in_default t c =
    let kept = c.args.kept.now in
    let lent : c.share-n.result ≤ length kept = omega (arith, c.share-n.ensures) in
    let cleared : Cleared (take c.share-n.result (c.clear.new.kept ++ drop c.share-n.result kept)) =
    subst Cleared (sym (first_back kept c.clear.new.kept lent c.clear.auto.kept)) c.clear.ensures in
    from_cleared cleared c.pass.ensures
