-- `add_word`. The loop's invariant: what is added, with what the rest of the word leads to, is what the whole word leads to.
use Prim.Native.Nat.{◌+◌, ◌*◌}
use Rattle.roll.specs.Roll.{nodes}
use Rattle.sets.specs.Sets.{In}
use Rattle.steps.specs.Axis.{AlongAny}
use Rattle.steps.proofs.Members.{SoFar}
use Rattle.steps.proofs.walk.Walk.add_word.Given as goal

abbrev pub invariant-loop-k : goal.invariant-loop-k
invariant-loop-k l =
    SoFar (λ k. AlongAny (nodes l.self.roll.now) l.self.axes (64 * l.w + k)) (In l.initial.out) l.word (In l.out) l.k-iterator.0
