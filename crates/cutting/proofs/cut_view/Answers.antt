-- `cut_view` meets call 4's promise.
use Prim.Native.Nat.{◌≤◌}
use lib.ListN.{length}
use Rattle.reply.specs.Outcome.{done}
use Rattle.reply.proofs.Checking.{met}
use Rattle.roll.specs.Roll.{Roll}
use Rattle.view.specs.Visible.{root}
use Rattle.view.specs.Promise.{Seen, Annotated, ViewCut}
use Rattle.checks.specs.Ready.{ReadyToCut}
use Rattle.checks.proofs.Turns.{ready_passed_up, ready_counted}
use Rattle.cutting.proofs.Scanning.{view_as}
use Rattle.cutting.proofs.cut_view.Goals as goal
use Rattle.cutting.proofs.cut_view.Goals.{In_ok-ready_to_cut}

-- and what they say of it
passed : (c : In_ok-ready_to_cut)
    → let given = c.args in
    (length given.roll.now ≤ length given.room.now)
    × (Roll given.roll.now × Annotated given.annotation.now given.filters.now)
unfolding ReadyToCut
passed c = let (fits, right, size) = ready_counted c.in_ok-ready_to_cut.was c.ready_to_cut.ensures in (fits, right)

pub returns-in_err-ready_to_cut : goal.returns-in_err-ready_to_cut
unfolding ViewCut ReadyToCut
returns-in_err-ready_to_cut c = ready_passed_up c.in_err-ready_to_cut.was (met c.from_residual.ensures.1) c.ready_to_cut.ensures

pub visible_nodes-seen-requires : goal.visible_nodes-seen-requires
visible_nodes-seen-requires c = (passed c).1

pub write_view-requires : goal.write_view-requires
unfolding Seen
write_view-requires c =
    let (fits, right) = passed (goal.at.write_view-requires c).In_ok-ready_to_cut in
    (right.0, (c.visible_nodes-seen.ensures.exact 0).1 root, fits)

pub returns : goal.returns
unfolding ViewCut
returns c =
    let (fits, right) = passed (goal.at.returns c).In_ok-ready_to_cut in
    let cut = c.write_view.ensures in
    done fits right (record {
      view = cut.view;
      is = view_as c.visible_nodes-seen.ensures.exact cut.is;
      count = cut.count;
      written = cut.written;
    })
