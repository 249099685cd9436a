-- `tables::entry::sort_at`: the sort is that of the entry's kind.
use Prim.Native.Nat.{ℕ}
use mathlib.Core.Path.{ap, ◌∙◌}
use Rattle.query.specs.Kind.{row_of}
use Rattle.query.specs.Table.{row_at}
use Rattle.tables.specs.Shape.{sort_of}
use Rattle.tables.proofs.entry.sort_at.Goals as goal

pub returns : goal.returns
unfolding row_at
returns c = c.sort_of.ensures ∙ ap (λ (k : ℕ). sort_of (row_of k)) c.entry_at.ensures.kind
