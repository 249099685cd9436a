-- `labelled`. The loop's invariant: the words passed have the members with the label, and the others stand as before.
use mathlib.Core.Path.{◌≡◌}
use Rattle.tree.specs.Tree.{label_at}
use Rattle.roll.specs.Roll.{nodes}
use Rattle.sets.specs.Sets.{In}
use Rattle.sets.proofs.Words.{Made}
use Rattle.steps.proofs.label.labelled.Given as goal

abbrev pub invariant-loop-w : goal.invariant-loop-w
invariant-loop-w l =
    Made 64 (λ k. In l.fn.from k × (label_at (nodes l.roll) k ≡ l.label)) l.initial.word-items l.word-items l.w-counter
