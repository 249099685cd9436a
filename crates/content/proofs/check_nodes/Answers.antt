-- `check_nodes`: the children of the nodes that have been passed are allowed.
use Prim.Native.Nat.{◌<◌}
use native.Mathlib.Omega.{arith}
use mathlib.Core.Path.{◌∙◌}
use mathlib.Core.Logic.Iff
use mathlib.Core.Logic.{◌↔◌}
use borrow.Author.Count.{below_more}
use lib.ListN.{length}
use lib.Dec.{T}
use Rattle.reply.proofs.Checking.{passes, fails}
use Rattle.tree.proofs.Tests.{test_failed, test_passed}
use Rattle.roll.specs.Roll.{nodes}
use Rattle.rules.specs.Rules.{Allowed, forbidden}
use Rattle.content.proofs.Ruling.{few, ruled}
use Rattle.content.proofs.check_nodes.Goals as goal
use Rattle.content.proofs.check_nodes.Goals.{After-allows, In-loop-i}

-- a turn's node is one of the roll
node : (c : In-loop-i) → c.loop-i.i < length (nodes c.args.roll.now)
node c = omega (arith, c.loop-i-test.true, c.count-n.ensures)

-- the test of a turn says whether its node's children are allowed
judged : (c : After-allows)
    → let given = c.args in
    T c.allows.result ↔ Allowed given.rules.now given.list.now (nodes given.roll.now) c.loop-i.i
judged c =
    let given = c.requires in
    let node : c.loop-i.i < length (nodes c.args.roll.now) = omega (arith, c.loop-i-test.true, c.count-n.ensures) in
    Iff.trans c.allows.ensures (ruled given.1 (c.rules_by_label.ensures.each _ (given.0.node _ node).label.most))

pub count_stars-requires : goal.count_stars-requires
count_stars-requires c =
    let right = c.requires.1 in
    record { rules_len_bound = few right; by_index = λ i l. (right.entry i l).right }

pub allows-requires-clause-by_index : goal.allows-requires-clause-by_index
allows-requires-clause-by_index c = λ k l. (c.requires.1.entry k l).right

pub returns-then-not-allows : goal.returns-then-not-allows
returns-then-not-allows c =
    rw c.refuse.ensures
    (fails (record {
      within = node (goal.at.returns-then-not-allows c).In-loop-i;
      faulty = forbidden (test_failed c.allows.result (judged (goal.at.returns-then-not-allows c).After-allows) c.if-not-allows.true);
      lowest = c.loop-i.invariant.1;
    }))

pub loop-i-preserved : goal.loop-i-preserved
loop-i-preserved c =
    let passed = test_passed c.allows.result (judged (goal.at.loop-i-preserved c).After-allows) c.if-not-allows.false in
    (c.allows.auto.kept ∙ c.loop-i.invariant.0, below_more _ _ c.loop-i.invariant.1 passed)

pub returns : goal.returns
returns c = passes (λ i l. c.loop-i.invariant.1 i (omega arith)) c.count-n.ensures
