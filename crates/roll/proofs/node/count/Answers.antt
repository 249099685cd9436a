-- `count`: a record is four bytes.
use native.Mathlib.Omega.{arith}
use Rattle.roll.proofs.Records.{count_nodes}
use Rattle.roll.proofs.node.count.Goals as goal

pub returns : goal.returns
returns c = omega (arith, count_nodes c.args.roll.now)
