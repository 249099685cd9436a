-- `slip_before`: no star that was passed stands right behind a star.
use Rattle.derivation.proofs.Mistakes.{PlainBelow}
use Rattle.reader.proofs.stars.slip_before.Given as goal

abbrev pub invariant-loop-at : goal.invariant-loop-at
invariant-loop-at l = PlainBelow l.text l.at
