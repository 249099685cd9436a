-- `answer`. The loop's invariant: the records passed are answered.
use mathlib.Core.Path.{◌≡◌}
use lib.ListN.{length}
use Rattle.visible.specs.Answers.{AnswersTo}
use Rattle.visible.proofs.answers.answer.Given as goal

abbrev pub invariant-loop-r : goal.invariant-loop-r
invariant-loop-r l = record { size : length l.answers ≡ 32; so_far : AnswersTo l.roll l.annotation l.filters l.r l.answers }
