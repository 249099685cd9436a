-- `gather`. The loop's invariant: the next record is a child, and the word of the records before it is gathered. The measure is how
-- far it is from 65,536, since each link leads on.
use Prim.Native.Nat.{ℕ, ◌-◌, ◌<◌}
use mathlib.Core.Path.{◌≡◌}
use Rattle.std.specs.Prelude.{Some}
use Rattle.tree.specs.Tree.{Child}
use Rattle.roll.specs.Roll.{nodes}
use Rattle.rules.proofs.Words.{word_below}
use Rattle.words.specs.Words.{Gathered}
use Rattle.steps.proofs.Reaching.{place}
use Rattle.words.proofs.gather.Given as goal

abbrev pub invariant-loop-next : goal.invariant-loop-next
invariant-loop-next l =
    let t = nodes l.roll in
    ((j : ℕ) → l.next ≡ Some j → (j < 4096) × Child t l.i j) × Gathered (word_below t l.i (place l.next)) l.word l.n

abbrev pub decreases-loop-next : goal.decreases-loop-next
decreases-loop-next l = 65536 - place l.next
