-- The evaluation's functions, which call each other, meet their contracts.
use Prim.Native.Nat.{ℕ}
use native.Mathlib.Omega.{arith}
use mathlib.Core.Path.{sym, subst}
use mathlib.Core.List.{List}
use mathlib.Core.Logic.Iff
use mathlib.Core.Logic.{inr}
use lib.Dec.{T}
use lib.ListN.{length}
use Rattle.tree.proofs.Tests.{test_failed, test_passed}
use Rattle.roll.specs.Roll.{nodes}
use Rattle.roll.proofs.Deciding.{roll_in_order, roll_most}
use Rattle.query.specs.Meaning.{reach, holds}
use Rattle.query.specs.Table.{entries, path_at}
use Rattle.query.proofs.Turn.{turn_right, free_reaches}
use Rattle.sets.specs.Sets.{Image, Inside}
use Rattle.sets.proofs.Size.{size_most}
use Rattle.steps.specs.Axis.{AlongAny}
use Rattle.steps.specs.declared.axis.Axes.{Axes}
use Rattle.evaluator.specs.Evaluation.{goes}
use Rattle.evaluator.proofs.Filtered.{filter_first, ends_held, step_first}
use Rattle.evaluator.proofs.Filters.{narrow_always, narrow_never, narrow_leads, narrow_not, narrow_and, narrow_or}
use Rattle.evaluator.proofs.Images.{Stays, image_inside, image_same, image_star, image_then}
use Rattle.evaluator.proofs.Operands.{path_stays, operand_below, InTurn, in_turn}
use Rattle.evaluator.proofs.Rounds.{first_round, next_round, round_adds, last_round}
use Rattle.evaluator.proofs.Stepping.{steps_stay, step_from, star_of_steps, then_along, along_then}
use Rattle.evaluator.proofs.Walks.{walk_self, walk_free, walk_stay, walk_either, walk_star, walk_star_star}
use Rattle.evaluator.proofs.evaluation.Evaluation.+walk.Goals as goal
use Rattle.evaluator.proofs.evaluation.Evaluation.+walk.Goals.{of_two-After-first_of-second}

-- # by_rounds: between two rounds `Rounds` holds, and each round adds a node to those gone on from

pub by_rounds-loop-course-init : goal.by_rounds-loop-course-init
by_rounds-loop-course-init t c = first_round c.requires.asked.nodes_only c.empty-all.ensures

pub by_rounds-loop-course-smaller : goal.by_rounds-loop-course-smaller
by_rounds-loop-course-smaller t c =
    let some = test_failed c.is_empty.result c.is_empty.ensures c.loop-course-test.true in
    let most = roll_most c.requires.given.grounds.roll_right in
    let more = round_adds c.loop-course.invariant most some c.union-grown.ensures in
    omega (arith, more, size_most c.union-grown.result)

pub by_rounds-loop-course-preserved : goal.by_rounds-loop-course-preserved
by_rounds-loop-course-preserved t c =
    next_round c.loop-course.invariant (path_stays c.requires _) c.union-grown.ensures c.image-reached.ensures c.difference-rest.ensures

pub by_rounds-returns : goal.by_rounds-returns
unfolding reach
by_rounds-returns t c = last_round c.loop-course.invariant (test_passed c.is_empty.result c.is_empty.ensures c.loop-course-test.false)

-- # image

pub image-returns-in-Itself : goal.image-returns-in-Itself
image-returns-in-Itself t c = rw c.in-Itself.ensures (walk_self (nodes c.args.self.now.roll.now) c.args.course)

-- a filter that is taken to hold, or is asked
pub image-returns-in-Freely : goal.image-returns-in-Freely
image-returns-in-Freely t c = rw (c.in-Stay.ensures.1, c.in-Freely.is) (walk_free (nodes c.args.self.now.roll.now) _)

pub image-returns-in-Forwards : goal.image-returns-in-Forwards
image-returns-in-Forwards t c =
    rw c.in-Stay.ensures.1 (walk_stay (nodes c.args.self.now.roll.now) c.args.course _ c.in-Forwards.is c.narrow.ensures)

-- left, then right, or the other way round: what comes first is asked of the set, and what comes second of what that reaches
pub image-image-requires : goal.image-image-requires
image-image-requires t c =
    operand_below c.requires c.decreases (in_turn c.in-Then.ensures c.args.course c.first_of-first.ensures c.first_of-second.ensures).other
    (image_inside (path_stays c.requires _) c.requires.asked.nodes_only c.image-half.ensures)

pub image-returns-in-Then : goal.image-returns-in-Then
image-returns-in-Then t c =
    let parts = in_turn c.in-Then.ensures c.args.course c.first_of-first.ensures c.first_of-second.ensures in
    image_same (λ i j. Iff.symm (parts.same (nodes c.args.self.now.roll.now) i j)) (image_then c.image-half.ensures c.image.ensures)

pub image-returns-in-Either : goal.image-returns-in-Either
image-returns-in-Either t c =
    rw c.in-Either.ensures.1
    (walk_either (nodes c.args.self.now.roll.now) _ _ c.args.course c.image-one.ensures c.image-other.ensures c.union.ensures)

pub image-returns-in-Star : goal.image-returns-in-Star
image-returns-in-Star t c = rw c.in-Star.ensures.1 (walk_star (nodes c.args.self.now.roll.now) c.args.course _ c.star.ensures)

-- # narrow

pub narrow-image-starts-requires : goal.narrow-image-starts-requires
narrow-image-starts-requires t c =
    operand_below c.requires c.decreases c.in-Leads.ensures.0
    (image_inside (path_stays c.requires _) c.requires.asked.nodes_only c.image-ends.ensures)

pub narrow-returns-in-Labelled : goal.narrow-returns-in-Labelled
unfolding holds
narrow-returns-in-Labelled t c = rw c.in-Labelled.ensures c.labelled.ensures

pub narrow-returns-in-Leads : goal.narrow-returns-in-Leads
unfolding holds
narrow-returns-in-Leads t c =
    let tree = nodes c.args.self.now.roll.now in
    let p = path_at (entries c.args.self.now.table.now) c.in-Leads.path in
    rw c.in-Leads.ensures.1
    (narrow_leads (free_reaches tree p) (turn_right tree p) c.image-ends.ensures c.image-starts.ensures c.common-in-Leads.ensures)

pub narrow-returns-in-Always : goal.narrow-returns-in-Always
unfolding holds
narrow-returns-in-Always t c = rw c.in-Always.ensures narrow_always

pub narrow-returns-in-Never : goal.narrow-returns-in-Never
unfolding holds
narrow-returns-in-Never t c = rw c.in-Never.ensures (narrow_never c.empty.ensures)

pub narrow-returns-in-Not : goal.narrow-returns-in-Not
unfolding holds
narrow-returns-in-Not t c = rw c.in-Not.ensures.1 (narrow_not c.narrow.ensures c.difference.ensures)

pub narrow-returns-in-And : goal.narrow-returns-in-And
unfolding holds
narrow-returns-in-And t c = rw c.in-And.ensures.1 (narrow_and c.narrow-first.ensures c.narrow-in-And.ensures)

pub narrow-returns-in-Or : goal.narrow-returns-in-Or
unfolding holds
narrow-returns-in-Or t c =
    rw c.in-Or.ensures.1 (narrow_or c.narrow-first-in-Or.ensures c.difference-rest.ensures c.narrow-in-Or.ensures c.union.ensures)

-- # sources: the filter holds nowhere in the set, or it is asked of all nodes

pub sources-returns-then-is_empty : goal.sources-returns-then-is_empty
sources-returns-then-is_empty t c =
    let none = c.is_empty.ensures.0 (subst T (sym c.if-is_empty.true) tt) in
    record {
      sound = λ k x. absurd (none k x);
      whole = inr (λ k x held. none k ((c.image-here.ensures.exact k).1 (k, x, held)));
    }

pub sources-below-all-requires : goal.sources-below-all-requires
sources-below-all-requires t c = rw c.count.ensures (roll_most c.requires.asked.given.grounds.roll_right)

-- # star

-- of a star, what that star reaches
pub star-returns-in-Star : goal.star-returns-in-Star
star-returns-in-Star t c = rw c.in-Star.ensures.1 (walk_star_star (nodes c.args.self.now.roll.now) c.args.course _ c.star.ensures)

-- along axes, from each node once
pub at_once-returns-in_ok-axes-in_default : goal.at_once-returns-in_ok-axes-in_default
unfolding reach
at_once-returns-in_ok-axes-in_default t c =
    let g = c.requires.given.grounds.roll_right in
    image_star (c.in_ok-axes-in_default.ensures (nodes c.args.self.now.roll.now))
    (star_of_steps (roll_in_order g) (roll_most g) c.below.ensures c.closure.ensures)

-- # of_two: the two parts, in the order of the course

two_parts : (t : ℕ) (c : of_two-After-first_of-second t)
    → InTurn c.args.self.now.table.now c.args.course c.args.e c.first_of-first.result c.first_of-second.result
two_parts t c = in_turn c.requires.parts c.args.course c.first_of-first.ensures c.first_of-second.ensures

-- steps stay among the nodes
along : (t : ℕ) (c : of_two-After-first_of-second t) {axes : Axes}
    → Stays (length (nodes c.args.self.now.roll.now)) (AlongAny (nodes c.args.self.now.roll.now) axes)
along t c = let g = c.requires.asked.given.grounds.roll_right in steps_stay (roll_in_order g) (roll_most g)

pub of_two-returns-then-stays_at_hand : goal.of_two-returns-then-stays_at_hand
unfolding reach
of_two-returns-then-stays_at_hand t c =
    let tree = nodes c.args.self.now.roll.now in
    let at = (goal.at.of_two-returns-then-stays_at_hand t c).After-first_of-second in
    let still = c.stays_at_hand.ensures (subst T (sym c.if-stays_at_hand.true) tt) c.args.course in
    let p = goes c.args.self.now c.first_of-first.result c.args.course in
    let q = goes c.args.self.now c.first_of-second.result c.args.course in
    image_star (λ i j. Iff.trans (then_along q (reach tree p) c.in_ok-axes.ensures i j) (Iff.symm ((two_parts t at).same tree i j)))
    (filter_first still (along t at) c.requires.asked.asked.nodes_only c.sources-open.ensures (image_star step_from c.closure.ensures))

-- and so does where the first one leads
begun_inside : (t : ℕ) (c : of_two-After-first_of-second t) {axes : Axes} {begun : List ℕ}
    → Image (AlongAny (nodes c.args.self.now.roll.now) axes) c.args.from begun → Inside (length (nodes c.args.self.now.roll.now)) begun
begun_inside t c = image_inside (along t c) c.requires.asked.asked.nodes_only

pub of_two-sources-open-requires-then-stays_at_hand-2 : goal.of_two-sources-open-requires-then-stays_at_hand-2
of_two-sources-open-requires-then-stays_at_hand-2 t c =
    let at = (goal.at.of_two-sources-open-requires-then-stays_at_hand-2 t c).After-first_of-second in
    let other = (two_parts t at).other in (
      omega (arith, c.decreases, other.earlier),
      (
        record {
          given = c.requires.asked.given;
          asked = record { entry = other.entry; nodes_only = begun_inside t at c.step-begun.ensures };
        },
        c.stays_at_hand-2.ensures (subst T (sym c.if-stays_at_hand-2.true) tt) c.args.course,
      ),
    )

pub of_two-returns-then-stays_at_hand-2 : goal.of_two-returns-then-stays_at_hand-2
unfolding reach
of_two-returns-then-stays_at_hand-2 t c =
    let tree = nodes c.args.self.now.roll.now in
    let at = (goal.at.of_two-returns-then-stays_at_hand-2 t c).After-first_of-second in
    let inside = begun_inside t at c.step-begun.ensures in
    let still = c.stays_at_hand-2.ensures (subst T (sym c.if-stays_at_hand-2.true) tt) c.args.course in
    let p = goes c.args.self.now c.first_of-first.result c.args.course in
    let q = goes c.args.self.now c.first_of-second.result c.args.course in
    let star = image_star step_from c.closure-ends.ensures in
    image_star (λ i j. Iff.trans (along_then p (reach tree q) c.in_ok-axes-2.ensures i j) (Iff.symm ((two_parts t at).same tree i j)))
    (step_first c.step-begun.ensures (filter_first still (along t at) inside c.sources-open-then-stays_at_hand-2.ensures star)
    (ends_held still (along t at) inside c.sources-open-then-stays_at_hand-2.ensures star c.common.ensures) c.union.ensures)
