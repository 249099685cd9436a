-- `step`. The loop's invariant: the set holds what the members in the words passed lead to.
use native.Mathlib.Omega.{arith}
use borrow.Author.Rules.{rules}
use Rattle.sets.proofs.Words.{empty_set, zeros}
use Rattle.steps.proofs.Adding.{holds_same}
use Rattle.steps.proofs.Members.{word_more, words_all}
use Rattle.steps.proofs.along.step.Goals as goal

pub loop-w-init : goal.loop-w-init
loop-w-init c = holds_same (λ j. (λ none. absurd none, λ (i, m, l, r). absurd (omega arith))) (empty_set _ (zeros 64))

pub loop-w-preserved : goal.loop-w-preserved
loop-w-preserved c = word_more c.loop-w.w c.loop-w.invariant c.add_word.ensures

pub returns : goal.returns
returns c = words_all c.loop-w.w (search rules) (omega arith) c.loop-w.invariant
