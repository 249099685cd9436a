-- `has`: the digit of the number in its word is tested.
use mathlib.Core.Logic.Iff
use Rattle.tree.proofs.Tests.{equal_test}
use Rattle.sets.specs.Bits.{digit, bit_of}
use Rattle.sets.proofs.test.has.Goals as goal

pub returns : goal.returns
unfolding bit_of digit
returns c = Iff.trans (equal_test _ 1).exact (λ e. record { one = e }, λ m. m.one)
