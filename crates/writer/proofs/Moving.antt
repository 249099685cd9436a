-- What is written for an entry of the query, by its kind, and that the fields of an entry in order are small. Assumes nothing.
use Prim.Native.Nat.{ℕ, ◌≤◌, ◌<◌}
use native.Mathlib.Omega.{arith}
use mathlib.Core.Path.{◌≡◌, refl}
use mathlib.Core.Bool.{Bool, true, false}
use Rattle.query.specs.Table as table
use Rattle.query.specs.Table.{Entries, entry_at, LabelField, EntryRight}
use Rattle.tables.specs.declared.entry.Entry.{Entry}
use Rattle.tables.specs.Fields.{Fields}
use Rattle.written.proofs.Back.{operand_small}
use Rattle.written.specs.Written.{chosen}
use Rattle.tables.specs.Kind.{number}
use Rattle.tables.specs.declared.kinds.Kind.{Kind}
use Rattle.tables.specs.declared.kinds.Kind.TheVariants.{Itself, Child, Parent, Next, Previous, Stay, Then, Either, Star, Labelled, Leads, Always, Never, Not, And, Or}
use Rattle.writer.specs.Laid.{Short}

-- what is chosen for a kind that is no axis
pub others : (axes : ℕ) (own : table.Entry) (kind : Kind) → ¬ (kind ≡ Child) → ¬ (kind ≡ Parent) → ¬ (kind ≡ Next) → ¬ (kind ≡ Previous)
    → own ≡ chosen axes own (number kind)
unfolding chosen
others axes own Itself a b c d = refl
others axes own Child a b c d = absurd (a refl)
others axes own Parent a b c d = absurd (b refl)
others axes own Next a b c d = absurd (c refl)
others axes own Previous a b c d = absurd (d refl)
others axes own Stay a b c d = refl
others axes own Then a b c d = refl
others axes own Either a b c d = refl
others axes own Star a b c d = refl
others axes own Labelled a b c d = refl
others axes own Leads a b c d = refl
others axes own Always a b c d = refl
others axes own Never a b c d = refl
others axes own Not a b c d = refl
others axes own And a b c d = refl
others axes own Or a b c d = refl

-- The fields of an entry in order.
module _ {es : Entries} {i : ℕ} (right : EntryRight es i) where
  small_label : (entry_at es i).label < 256
  unfolding LabelField
  small_label = go right.row.label right.label
    where
      go : (used : Bool) → LabelField used (entry_at es i).label → (entry_at es i).label < 256
      go true l = omega (arith, l.most)
      go false l = omega (arith, l)

  -- of what was read of it
  module _ {own : Entry} (read : Fields (entry_at es i) own) where
    pub read_label : own.label < 256
    read_label = rw read.label small_label

    pub read_numbers : Short i → Short own.left × Short own.right
    read_numbers l =
        let left : own.left ≤ i = rw read.left (operand_small es i right.row.left (entry_at es i).left right.left) in
        let more : own.right ≤ i = rw read.right (operand_small es i right.row.right (entry_at es i).right right.right) in
        (omega arith, omega arith)
