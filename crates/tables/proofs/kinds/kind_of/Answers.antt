-- `tables::kinds::kind_of`: a number of no case is that of no row.
use borrow.Author.Tests.{ne_eqb}
use native.Mathlib.Omega.{arith}
use Rattle.query.specs.Kind.{kinds, find}
use Rattle.tables.proofs.kinds.kind_of.Goals as goal

pub returns-in_default : goal.returns-in_default
unfolding kinds find
returns-in_default c = grind (arith, ne_eqb)
