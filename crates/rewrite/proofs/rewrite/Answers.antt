-- `rewrite::rewrite` meets call 5's promise.
use Prim.Native.Nat.{◌≤◌}
use lib.ListN.{length}
use Rattle.reply.specs.Outcome.{done}
use Rattle.reply.proofs.Checking.{met}
use Rattle.query.specs.Fault.{curators, Query}
use Rattle.view.specs.Promise.{Annotated}
use Rattle.checks.specs.Ready.{ReadyToRewrite}
use Rattle.checks.proofs.Turns.{ready_passed_up, ready_counted}
use Rattle.rewrite.specs.Promise.{RewriteGiven}
use Rattle.rewrite.proofs.rewrite.Goals as goal
use Rattle.rewrite.proofs.rewrite.Goals.{In_ok-ready_to_rewrite}

-- what the checks say where they count
checked : (c : In_ok-ready_to_rewrite) → let a = c.args in
    (6144 ≤ length a.room.now) × (Annotated a.annotation.now a.filters.now × Query curators a.query.now)
unfolding ReadyToRewrite
checked c = let (room, right, size) = ready_counted c.in_ok-ready_to_rewrite.was c.ready_to_rewrite.ensures in (room, right)

pub returns-in_err-ready_to_rewrite : goal.returns-in_err-ready_to_rewrite
unfolding ReadyToRewrite RewriteGiven
returns-in_err-ready_to_rewrite c = ready_passed_up c.in_err-ready_to_rewrite.was (met c.from_residual.ensures.1) c.ready_to_rewrite.ensures

pub write_rewritten-requires : goal.write_rewritten-requires
write_rewritten-requires c = let (room, right) = checked (goal.at.write_rewritten-requires c).In_ok-ready_to_rewrite in record { annotated = right; in_bounds = room }

pub returns : goal.returns
unfolding RewriteGiven
returns c =
    let (room, right) = checked (goal.at.returns c).In_ok-ready_to_rewrite in
    done room right c.write_rewritten.ensures.rewritten
