-- What is told by the kind that is found for a number. Assumes nothing.
use Prim.Native.Nat.{ℕ}
use mathlib.Core.Path.{◌≡◌, refl, sym, ap, ◌∙◌}
use mathlib.Core.Option.{none, some}
use Rattle.std.specs.Prelude.{Option, Some, None, IsSome}
use Rattle.query.specs.Kind.{row_of}
use Rattle.query.specs.Table.{Entries, entry_at, row_at, EntryRight}
use Rattle.tables.specs.declared.kinds.Kind.{Kind}
use Rattle.tables.specs.Kind.{number, Stands}

-- it has the number
pub found_is : {n : ℕ} {found : Option Kind} {kind : Kind} → Stands n found → found ≡ Some kind → n ≡ number kind
found_is stands e = rw e at stands

-- there is one for an entry in order
pub kind_found : {es : Entries} {i n : ℕ} (found : Option Kind) → EntryRight es i → n ≡ (entry_at es i).kind → Stands n found → IsSome found
unfolding row_at
kind_found (Some k) right is stands = refl
kind_found None right is stands = let no : none ≡ some right.row = sym stands ∙ ap row_of is ∙ right.listed in cc
