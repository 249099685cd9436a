-- `put_two_bytes`: the low byte, and the high byte behind it.
use native.Mathlib.Numerals.{towards_suc}
use native.Mathlib.Omega.{arith}
use lib.ListN.{length-set}
use Rattle.reply.specs.Bytes.{two_bytes}
use Rattle.reply.proofs.put_two_bytes.Goals as goal

pub bounds-out-at-2 : goal.bounds-out-at-2
bounds-out-at-2 c = simp length-set (omega arith)

pub returns : goal.returns
unfolding two_bytes
returns c = simp towards_suc
