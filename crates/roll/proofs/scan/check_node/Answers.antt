-- `check_node`: each test is one part of a record that is right, and a refusal is for the first part that is not.
use mathlib.Core.Path.{◌≡◌, refl}
use Rattle.reply.proofs.Checking.{passes, lowest_refused}
use Rattle.tree.specs.Tree.{Label, label_at}
use Rattle.tree.proofs.Tests.{test_failed, test_passed}
use Rattle.roll.specs.Roll.{nodes, second_byte, label, second, parent}
use Rattle.roll.proofs.scan.check_node.Goals as goal
use Rattle.roll.proofs.scan.check_node.Goals.{Else-not-label, Else-not-second}

-- past the first test the record has a label
labelled : (c : Else-not-label) → let a = c.args in Label (label_at (nodes a.roll.now) a.i)
labelled c = let test = c.label_fits-label in test_passed test.result test.ensures c.if-not-label.false

-- past the second test it has a zero byte
zeroed : (c : Else-not-second) → let a = c.args in second_byte a.roll.now a.i ≡ 0
zeroed c = let test = c.second_fits-second in test_passed test.result test.ensures c.if-not-second.false

pub parent_fits-parent-requires : goal.parent_fits-parent-requires
parent_fits-parent-requires c = λ k l. (c.requires.by_index k l).parent

pub returns-then-not-label : goal.returns-then-not-label
returns-then-not-label c =
    let test = c.label_fits-label in
    lowest_refused c.requires.i_in_bounds c.requires.by_index (label (test_failed test.result test.ensures c.if-not-label.true)) c.refuse.ensures

pub returns-then-not-second : goal.returns-then-not-second
returns-then-not-second c =
    let test = c.second_fits-second in
    lowest_refused c.requires.i_in_bounds c.requires.by_index (second (labelled (goal.at.returns-then-not-second c).Else-not-label) (test_failed test.result test.ensures c.if-not-second.true))
    c.refuse-then-not-second.ensures

pub returns-then-not-parent : goal.returns-then-not-parent
returns-then-not-parent c =
    let test = c.parent_fits-parent in
    lowest_refused c.requires.i_in_bounds c.requires.by_index
    (parent (labelled (goal.at.returns-then-not-parent c).Else-not-label) (zeroed (goal.at.returns-then-not-parent c).Else-not-second) (test_failed test.result test.ensures c.if-not-parent.true)) c.refuse-then-not-parent.ensures

pub returns : goal.returns
returns c =
    let test = c.parent_fits-parent in
    let fits = test_passed test.result test.ensures c.if-not-parent.false in
    passes (record { label = labelled (goal.at.returns c).Else-not-label; second = zeroed (goal.at.returns c).Else-not-second; parent = fits }) refl
