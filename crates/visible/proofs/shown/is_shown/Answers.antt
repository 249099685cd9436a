-- `is_shown`: the root is shown; a node whose pair has a row as that record's answer says, any other as its parent is.
use Prim.Native.Nat.{◌<◌}
use native.Mathlib.Omega.{arith}
use mathlib.Core.Path.{◌≡◌, refl, sym, ◌∙◌}
use mathlib.Core.Logic.Iff
use lib.ListN.{length}
use Rattle.tree.proofs.Order.{parent_smaller}
use Rattle.roll.specs.Roll.{nodes}
use Rattle.roll.proofs.Deciding.{roll_in_order, roll_most}
use Rattle.visible.specs.Shown.{root}
use Rattle.visible.proofs.Showing.{row_at, shown_inherited, shown_answered}
use Rattle.visible.proofs.shown.is_shown.Goals as goal
use Rattle.visible.proofs.shown.is_shown.Goals.{After-parent_at-parent, After-row_of}

-- the parent stands before the node
parent_before : (c : After-parent_at-parent) → c.parent_at-parent.result < c.args.i
parent_before c =
    let later : 0 < c.args.i = omega arith in
    let t = nodes c.args.roll.now in
    rw c.parent_at-parent.ensures (parent_smaller t (roll_in_order c.requires.roll.0) c.args.i later c.requires.i_in_bounds)

-- the row that was looked up is that of the node's pair
row_right : (c : After-row_of) → c.row_of.result ≡ row_at (nodes c.args.roll.now) c.args.index.now c.args.answers.now c.args.i
row_right c =
    c.row_of.ensures ∙ rw (c.label_at.ensures, c.label_at-2.ensures, c.parent_at-parent.ensures) refl

pub returns-then-i-eq0 : goal.returns-then-i-eq0
returns-then-i-eq0 c = (λ any. rw c.if-i-eq0.true root, λ s. tt)

pub is_in-as_parent-requires : goal.is_in-as_parent-requires
is_in-as_parent-requires c =
    let low = parent_before (goal.at.is_in-as_parent-requires c).After-parent_at-parent in
    let most = roll_most c.requires.roll.0 in
    omega arith

pub row_of-requires : goal.row_of-requires
row_of-requires c =
    let low = parent_before (goal.at.row_of-requires c).After-parent_at-parent in
    let right = c.requires.roll.0.node in
    let node = c.requires.i_in_bounds in
    let above : c.parent_at-parent.result < length (nodes c.args.roll.now) = omega arith in
    (rw c.label_at.ensures (right _ above).label, rw c.label_at-2.ensures (right _ node).label)

pub is_in-requires : goal.is_in-requires
is_in-requires c = omega (arith, roll_most c.requires.roll.0, c.requires.i_in_bounds)

pub returns-in-Some : goal.returns-in-Some
returns-in-Some c =
    let later : 0 < c.args.i = omega arith in
    let row = sym (row_right (goal.at.returns-in-Some c).After-row_of) ∙ c.in-Some.is in
    Iff.trans c.is_in.ensures (shown_answered _ _ _ later c.requires.i_in_bounds row)

pub returns-in-None : goal.returns-in-None
returns-in-None c =
    let low = parent_before (goal.at.returns-in-None c).After-parent_at-parent in
    let later : 0 < c.args.i = omega arith in
    let row = sym (row_right (goal.at.returns-in-None c).After-row_of) ∙ c.in-None.is in
    Iff.trans c.is_in-as_parent.ensures
    (Iff.trans (c.requires.shown_to.exact c.parent_at-parent.result)
    (Iff.trans (λ (l, x). rw (← c.parent_at-parent.ensures) x, λ x. (low, rw c.parent_at-parent.ensures x))
    (shown_inherited _ _ _ later c.requires.i_in_bounds row)))
