-- `tables::height::height_below`: an entry is one higher than the higher of its operands.
use Prim.Native.Nat.{ℕ, ◌+◌}
use mathlib.Core.Path.{ap, ◌∙◌}
use Rattle.tables.proofs.Heights.{height_read}
use Rattle.tables.proofs.height.height_below.Goals as goal

pub returns : goal.returns
returns c =
    let shape = c.shape_of-shape in
    ap (λ (h : ℕ). h + 1) c.max.ensures
    ∙ height_read c.args.heights.now c.entry_at-entry.result shape.result c.entry_at-entry.ensures shape.ensures
    c.operand_height-left.ensures c.operand_height-right.ensures
