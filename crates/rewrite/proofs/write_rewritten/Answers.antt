-- `write_rewritten`: the filter table is copied to the front, and what is written behind it makes the rewritten table.
use native.Mathlib.Omega.{arith}
use mathlib.Core.Path.{refl}
use mathlib.Core.List.{◌++◌}
use lib.ListN.{length, drop}
use Rattle.reply.specs.Bytes.{Bytes}
use Rattle.reply.proofs.Stores.{copied_front}
use Rattle.rewrite.proofs.Made.{writer_given, made, made_told, short_count}
use Rattle.rewrite.proofs.write_rewritten.Goals as goal
use Rattle.rewrite.proofs.write_rewritten.Goals.{After-copy_from_slice}

-- the room as it stands once the filter table is in front:
-- what is copied, and the room behind it
abbrev front : (c : After-copy_from_slice) → Bytes
front c = c.copy_from_slice.new.self ++ drop (length c.args.filters.now) c.args.room.now

pub write_behind-behind-requires : goal.write_behind-behind-requires
write_behind-behind-requires c =
    let at_copy = (goal.at.write_behind-behind-requires c).After-copy_from_slice in
    let (annotated, asked) = c.requires.annotated in
    let (room, (labels, (right, numbers))) =
    writer_given annotated asked c.args.room.now (front at_copy) (length c.args.filters.now) c.requires.in_bounds refl (copied_front _ refl c.copy_from_slice.ensures.after)
    c.count-first.ensures in
    record { room = room; label_bytes = labels; entries_right = right; numbers = numbers }

pub overflow_add-result : goal.overflow_add-result
overflow_add-result c =
    let (annotated, asked) = c.requires.annotated in
    let short = short_count annotated asked c.count-first.ensures c.write_behind-behind.ensures.value in
    omega arith

pub returns : goal.returns
returns c =
    let at_copy = (goal.at.returns c).After-copy_from_slice in
    let (annotated, asked) = c.requires.annotated in
    let record { value = many; out_after = laid_there } = c.write_behind-behind.ensures in
    let room = c.args.room.now in
    let size = length c.args.filters.now in
    record {
      rewritten =
          made annotated asked room (front at_copy) size c.requires.in_bounds refl (copied_front _ refl c.copy_from_slice.ensures.after) c.count-first.ensures many laid_there;
      visible_told =
          made_told annotated asked room (front at_copy) size c.requires.in_bounds refl (copied_front _ refl c.copy_from_slice.ensures.after) c.count-first.ensures many laid_there;
    }
