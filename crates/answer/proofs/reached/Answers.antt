-- `reached`: the image of the one start under the table's last entry.
use native.Mathlib.Omega.{arith}
use Rattle.roll.proofs.Deciding.{roll_most}
use Rattle.answer.proofs.Asking.{some_entry, query_grounds, query_asked, query_reached}
use Rattle.answer.proofs.reached.Goals as goal

pub add-requires : goal.add-requires
add-requires c =
    omega (arith, c.requires.start_in_bounds, roll_most c.requires.roll.0)

pub overflow_sub-last : goal.overflow_sub-last
overflow_sub-last c = omega (arith, c.count-last.ensures, some_entry c.requires.roll.1)

pub image-requires : goal.image-requires
image-requires c = (
  record { grounds = query_grounds c.requires.roll.1 c.requires.roll.0 c.link.ensures; answer = c.requires.held },
  query_asked c.requires.roll.1 c.empty-from.ensures c.add.ensures c.count-last.ensures c.requires.start_in_bounds,
)

pub returns : goal.returns
returns c =
    query_reached c.requires.roll.1 c.empty-from.ensures c.add.ensures _ _ c.count-last.ensures c.image.ensures
