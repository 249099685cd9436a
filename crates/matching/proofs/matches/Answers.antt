-- `matches`: a word is one of the entry's where the place behind it is reached from the place before it.
use mathlib.Core.Logic.Iff
use Rattle.matching.proofs.Passing.{only_first, from_first}
use Rattle.matching.proofs.matches.Goals as goal

pub invariant_of-matching : goal.invariant_of-matching
invariant_of-matching c = record {
  right = λ i l. ∣ c.requires.by_index i l ∣₁;
  counted = c.requires.counted;
  holds = c.words_of.ensures;
}

pub returns : goal.returns
returns c =
    let first = only_first c.empty-set.ensures c.add.ensures in
    Iff.trans c.has.ensures (from_first first c.pass_once.ensures)
