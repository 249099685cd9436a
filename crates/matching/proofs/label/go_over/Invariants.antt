-- `go_over`. The loop's invariant: the words passed hold what is behind the places with the label, and the digit over is the next one.
use Prim.Native.Nat.{ℕ}
use mathlib.Core.List.{List}
use Rattle.sets.specs.Sets.{In}
use Rattle.sets.proofs.Words.{Made}
use Rattle.rules.specs.Language.{Word}
use Rattle.matching.specs.Spans.{LabelAt}
use Rattle.matching.proofs.Moving.{Behind, Over}
use Rattle.matching.proofs.label.go_over.Given as goal

-- a place of the set where the label stands
abbrev pub Labelled : Word → ℕ → List ℕ → ℕ → Type 0
Labelled word label set p = In set p × LabelAt word label p

abbrev pub invariant-loop-w : goal.invariant-loop-w
invariant-loop-w l =
    Made 64 (Behind (Labelled l.word l.label l.initial.set)) l.initial.set l.set l.w-counter × Over (Labelled l.word l.label l.initial.set) l.w-counter l.last
