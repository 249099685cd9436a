-- Who is visible: "nearest annotated ancestor or self decides" (source document 003).
use Rattle.std.specs.Prelude.{ℕ}
use mathlib.Core.List.{List, Memᴰ}
use Rattle.tree.specs.Tree.{Tree, label_at, Child}
use Rattle.query.specs.Syntax.{Filter}
use Rattle.query.specs.Meaning.{holds}
use Rattle.view.specs.Annotation.{Rule}

-- the pair (parent's label, own label) has a record, with this filter
abbrev pub Ruled : List Rule → ℕ → ℕ → Filter → Type 0
Ruled rules parent child filter = Memᴰ (record { parent = parent; child = child; filter = filter }) rules

pub data Visible (t : Tree) (rules : List Rule) : ℕ → Type 0 where
  -- "Record 0 is visible."
  root : Visible t rules 0
  -- "Another node whose pair (parent's label, own label) has a record is visible exactly if that record's filter holds at the node
  -- on the whole roll."
  shown : {p i : ℕ} {f : Filter} → Child t p i → Ruled rules (label_at t p) (label_at t i) f → holds t f i → Visible t rules i
  -- "A node whose pair has none is visible exactly if its parent is."
  inherits : {p i : ℕ} → Child t p i → ((f : Filter) → ¬ Ruled rules (label_at t p) (label_at t i) f) → Visible t rules p → Visible t rules i
