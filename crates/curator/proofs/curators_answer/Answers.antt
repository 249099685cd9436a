-- `curators_answer`: what the checks refuse is refused with the room as it was; any other query is answered through
-- the rewritten one, and its records turned into positions.
use Prim.Native.Nat.{◌≤◌}
use native.Mathlib.Omega.{arith}
use mathlib.Core.Path.{◌≡◌}
use lib.ListN.{length}
use Rattle.reply.specs.Outcome.{done}
use Rattle.reply.proofs.Checking.{met}
use Rattle.roll.specs.Roll.{nodes, Roll}
use Rattle.roll.proofs.Deciding.{roll_most}
use Rattle.query.specs.Fault.{curators, Query}
use Rattle.view.specs.Promise.{Annotated}
use Rattle.view.proofs.Accepted.{seen_node}
use Rattle.curator.proofs.Through.{given_through}
use Rattle.checks.specs.Ready.{ReadyForCurator}
use Rattle.checks.proofs.Turns.{ready_passed_up, ready_counted}
use Rattle.curator.specs.Promise.{CuratorAnswered}
use Rattle.curator.proofs.curators_answer.Goals as goal
use Rattle.curator.proofs.curators_answer.Goals.{In_ok-n}

-- where the checks pass, there is room, all inputs are in order, and the nodes are counted
passed : (c : In_ok-n)
    → let a = c.args in
    (512 ≤ length a.room.now)
    × (Roll a.roll.now × (Annotated a.annotation.now a.filters.now × Query curators a.query.now))
    × (c.in_ok-n.n ≡ length (nodes a.roll.now))
unfolding ReadyForCurator
passed c = ready_counted c.in_ok-n.was c.ready_for_curator.ensures

pub returns-in_err-n : goal.returns-in_err-n
unfolding CuratorAnswered ReadyForCurator
returns-in_err-n c = ready_passed_up c.in_err-n.was (met c.from_residual.ensures.1) c.ready_for_curator.ensures

pub visible_nodes-shown-requires : goal.visible_nodes-shown-requires
visible_nodes-shown-requires c = let right = (passed c).1 in (right.0, right.1.0)

pub reached_through-reached-requires : goal.reached_through-reached-requires
reached_through-reached-requires c = record { roll = (passed (goal.at.reached_through-reached-requires c).In_ok-n).1; holds = c.visible_nodes-shown.ensures }

pub positions_of-found-requires : goal.positions_of-found-requires
positions_of-found-requires c =
    let (room, right, size) = passed (goal.at.positions_of-found-requires c).In_ok-n in
    (omega (arith, roll_most right.0), λ k x. rw size (seen_node _ _ _ right.0 ((c.visible_nodes-shown.ensures.exact k).0 x)))

pub give-requires : goal.give-requires
give-requires c = (passed (goal.at.give-requires c).In_ok-n).0

pub returns : goal.returns
unfolding CuratorAnswered
returns c =
    let through = c.reached_through-reached.ensures in
    let (room, right, size) = passed (goal.at.returns c).In_ok-n in
    let (n, counted, answered) = given_through _ _ _ _ through.path right.0 through.faithful c.visible_nodes-shown.ensures through.all c.positions_of-found.ensures c.give.ensures in
    rw counted (done room right answered)
