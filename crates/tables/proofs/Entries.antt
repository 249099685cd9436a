-- What the code reads of an entry is what stands there, what it writes are an entry's bytes, and the number of a sort says the sort.
-- Assumes nothing.
use Prim.Native.Nat.{ℕ, ◌+◌, ◌*◌, ◌/◌, ◌≤◌, ◌<◌}
use native.Mathlib.Numerals.{towards_suc}
use native.Mathlib.Omega.{arith}
use mathlib.Core.Path.{◌≡◌, ◌∙◌, subst}
use mathlib.Core.List.{[], ◌∷◌}
use lib.ListN.{length, get_or, set}
use lib.Seq.{sets}
use Rattle.reply.specs.Bytes.{Bytes, two, two_bytes}
use Rattle.query.specs.Kind.{row_of}
use Rattle.query.specs.Table as table
use Rattle.query.specs.Table.{Entries, entries, entry_bytes, entry_at, row_at, HasSort}
use Rattle.query.proofs.Tables.{entries_length, entry_from, entry_bytes_lem, no_entry}
use Rattle.tables.specs.declared.entry.Entry.{Entry}
use Rattle.tables.specs.Fields.{Fields}
use Rattle.tables.specs.Laid.{laid, fields}
use Rattle.tables.specs.declared.kinds.Shape.{Shape}
use Rattle.tables.specs.Shape.{Shaped}

module _ (b : Bytes) (i : ℕ) where
  -- the six bytes from 6 i on are entry i
  pub fields_read : (read : Entry) → i < length b / 6 → read.kind ≡ get_or b (6 * i) 0 → read.label ≡ get_or b (6 * i + 1) 0
      → read.left ≡ two (get_or b (6 * i + 2) 0) (get_or b (6 * i + 2 + 1) 0)
      → read.right ≡ two (get_or b (6 * i + 4) 0) (get_or b (6 * i + 4 + 1) 0)
      → Fields (entry_at (entries b) i) read
  unfolding entry_from
  fields_read read l kind label left right =
      rw (entry_bytes_lem b i (omega (arith, entries_length b)))
      (record { kind = kind; label = simp towards_suc at label; left = simp towards_suc at left; right = simp towards_suc at right })

  -- an entry that is not there has no fields
  pub fields_none : (read : Entry) → length b / 6 ≤ i → (read.kind ≡ 0) × ((read.label ≡ 0) × ((read.left ≡ 0) × (read.right ≡ 0)))
      → Fields (entry_at (entries b) i) read
  fields_none read l zeros =
      rw (no_entry b i (omega (arith, entries_length b))) (record { kind = zeros.0; label = zeros.1.0; left = zeros.1.1.0; right = zeros.1.1.1 })

-- kind, label and the two numbers behind them are the bytes of an entry
pub stored : (out : Bytes) (n kind label left right : ℕ) {first second : Bytes}
    → first ≡ sets (set (set out (6 * n) kind) (6 * n + 1) label) (6 * n + 2) (two_bytes left)
    → second ≡ sets first (6 * n + 4) (two_bytes right) → second ≡ laid out n (fields kind label left right ∷ [])
unfolding entry_bytes two_bytes
stored out n kind label left right one other = other ∙ rw one (simp towards_suc)

-- What was read of an entry, said of the entry: the shape of the kind that was read is that of its kind.
pub shape_read : {e : table.Entry} {read : Entry} {shape : Shape} → Fields e read → Shaped (row_of read.kind) shape → Shaped (row_of e.kind) shape
shape_read {shape = shape} fields shaped = subst (λ (kind : ℕ). Shaped (row_of kind) shape) fields.kind shaped
