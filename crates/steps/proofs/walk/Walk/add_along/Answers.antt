-- `add_along`: what the four axes lead to is added, each where it is taken.
use mathlib.Core.Path.{refl}
use mathlib.Core.Logic.Iff
use mathlib.Core.Logic.{◌⊎◌}
use lib.Dec.{T}
use Rattle.tree.specs.Tree.{Child, Next}
use Rattle.tree.proofs.Siblings.{next_unique, previous_unique}
use Rattle.roll.specs.Roll.{nodes}
use Rattle.steps.specs.Added.{Added}
use Rattle.steps.proofs.Adding.{added_same, added_more, added_where, not_added}
use Rattle.steps.proofs.Reaching.{leads}
use Rattle.steps.proofs.SeveralAxes.{along_each}
use Rattle.steps.proofs.walk.Walk.add_along.Goals as goal
use Rattle.steps.proofs.walk.Walk.add_along.Goals.{Joined-self-3, then-self, else-self, then-self-2, else-self-2, then-self-3, else-self-3}

-- the first three
three : (c : Joined-self-3)
    → let walk = c.args.self.now in let t = nodes walk.roll.now in let i = c.args.i in
    Added (λ j. ((T walk.axes.child × Child t i j) ⊎ (T walk.axes.parent × Child t j i)) ⊎ (T walk.axes.next × Next t i j)) c.args.out.now c.if-self-3.out
three c =
    let walk = c.args.self.now in
    let t = nodes walk.roll.now in
    let i = c.args.i in
    let child : Added (λ j. T walk.axes.child × Child t i j) c.args.out.now c.if-self.out =
    elim c.if-self.branch [
      | then-self w ↦ rw w.out-is (added_where w.if-self.true w.add_children.ensures)
      | else-self w ↦ rw w.out-is (not_added w.if-self.false)
    ] in
    let parent : Added (λ j. T walk.axes.parent × Child t j i) c.if-self.out c.if-self-2.out =
    elim c.if-self-2.branch [
      | then-self-2 w ↦ rw w.out-is (added_where w.if-self-2.true w.add_parent.ensures)
      | else-self-2 w ↦ rw w.out-is (not_added w.if-self-2.false)
    ] in
    let link = c.requires.roll.1.onwards.each i c.requires.i_bound in
    let next : Added (λ j. T walk.axes.next × Next t i j) c.if-self-2.out c.if-self-3.out =
    elim c.if-self-3.branch [
      | then-self-3 w ↦ rw w.out-is (added_where w.if-self-3.true (added_same (leads link refl (λ j j'. next_unique t)) w.add_linked.ensures))
      | else-self-3 w ↦ rw w.out-is (not_added w.if-self-3.false)
    ] in
    added_more (λ j. Iff.rfl) (added_more (λ j. Iff.rfl) child parent) next

pub returns-then-self-4 : goal.returns-then-self-4
returns-then-self-4 c =
    let t = nodes c.args.self.now.roll.now in
    let link = c.requires.roll.1.backwards.each c.args.i c.requires.i_bound in
    let previous = added_same (leads link refl (λ j j'. previous_unique t)) c.add_linked-then-self-4.ensures in
    added_same (λ j. along_each t c.args.i j c.args.self.now.axes)
    (added_more (λ j. Iff.rfl) (three (goal.at.returns-then-self-4 c).Joined-self-3) (added_where c.if-self-4.true previous))

pub returns-else-self-4 : goal.returns-else-self-4
returns-else-self-4 c =
    added_same (λ j. along_each (nodes c.args.self.now.roll.now) c.args.i j c.args.self.now.axes)
    (added_more (λ j. Iff.rfl) (three (goal.at.returns-else-self-4 c).Joined-self-3) (not_added c.if-self-4.false))
