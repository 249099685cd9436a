-- `empty`: words of zeros have no member.
use Rattle.sets.proofs.Words.{empty_set, zeros}
use Rattle.sets.proofs.build.empty.Goals as goal

pub returns : goal.returns
returns c = empty_set _ (zeros 64)
