-- `raised`: each operand is raised as its kind's shape says.
use Prim.Native.Nat.{ℕ, ◌+◌}
use mathlib.Core.Path.{ap, ap₂, ◌∙◌}
use Rattle.query.specs.Kind.{Operand, row_of}
use Rattle.tables.specs.Kind.{number}
use Rattle.tables.specs.Shape.{Shaped}
use Rattle.tables.specs.Laid.{fields}
use Rattle.written.specs.Written.{moved, renumber}
use Rattle.writer.proofs.entry.Entry.raised.Goals as goal

pub returns : goal.returns
unfolding renumber
returns c =
    let own = c.args.self in
    let shaped : Shaped (row_of (number own.kind)) c.shape_of-shape.result = rw (c.from.ensures, c.from-kind.ensures) at c.shape_of-shape.ensures in
    let to : ℕ → ℕ = λ x. x + c.args.distance in
    ap₂ (λ (l r : ℕ). fields (number own.kind) own.label l r)
    (c.raised_operand.ensures ∙ ap (λ (o : Operand). moved to o own.left) shaped.left)
    (c.raised_operand-2.ensures ∙ ap (λ (o : Operand). moved to o own.right) shaped.right)
