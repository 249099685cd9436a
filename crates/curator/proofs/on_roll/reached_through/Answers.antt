-- `curator::on_roll::reached_through`: the entries written are a query that may be answered, and faithful, and who is visible is known.
use native.Mathlib.Omega.{arith}
use mathlib.Core.Path.{sym}
use mathlib.Core.Logic.Iff
use lib.Seq.{length-take-le}
use Rattle.roll.proofs.Deciding.{roll_root}
use Rattle.rewrite.proofs.Given.{table_size, table_written}
use Rattle.curator.proofs.on_roll.reached_through.Goals as goal

pub overflow_mul-size : goal.overflow_mul-size
overflow_mul-size c = omega (arith, table_size _ _ _ _ _ _ c.write_rewritten-entries.ensures.rewritten)

pub slice_bounds-table-end : goal.slice_bounds-table-end
slice_bounds-table-end c = (table_size _ _ _ _ _ _ c.write_rewritten-entries.ensures.rewritten).1

pub slice_bounds-reached-end : goal.slice_bounds-reached-end
slice_bounds-reached-end c = sym (length-take-le _ _ (table_size _ _ _ _ _ _ c.write_rewritten-entries.ensures.rewritten).1)

pub reached-requires : goal.reached-requires
reached-requires c =
    let roll = c.requires.roll.0 in
    let record { rewritten = given; visible_told = told } = c.write_rewritten-entries.ensures in record { roll = (roll, (table_written _ _ _ _ _ _ given).0); start_in_bounds = roll_root roll; held = λ l k m. rw c.visible_entry-visible.ensures (Iff.trans (c.requires.holds.exact k) (told.exact _ roll k m)) }

pub returns : goal.returns
returns c =
    record {
      path = _;
      faithful = (table_written _ _ _ _ _ _ c.write_rewritten-entries.ensures.rewritten).1;
      all = c.reached.ensures;
    }
