-- What is written in bytes is read back as the table. Assumes nothing.
use Prim.Native.Nat.{ℕ, ◌%◌, ◌≤◌, ◌<◌}
use native.Mathlib.Omega.{arith}
use mathlib.Core.Path.{◌≡◌, refl, ap, ◌∙◌}
use mathlib.Core.List.{[], ◌∷◌, ◌++◌, append_assoc}
use lib.ListN.{length, length-append}
use lib.Seq.{get_or_at}
use Rattle.reply.specs.Bytes.{Bytes}
use Rattle.query.specs.Kind.{Operand, unused, of}
use Rattle.query.specs.Table.{Entries, entries, entry_at, entry_bytes, OperandField, EntryRight}
use Rattle.query.proofs.Bytes.{Below, none, one, entries_of_both, entries_back}
use Rattle.written.proofs.Stands.{Sound}

-- an operand in order is no greater than its entry's number
pub operand_small : (es : Entries) (i : ℕ) (o : Operand) (x : ℕ) → OperandField es i o x → x ≤ i
unfolding OperandField
operand_small es i unused x h = omega arith
operand_small es i (of s) x h = omega (arith, h.0)

-- the operands' numbers of entries in order are below the number of entries
right_below : (front es : Entries) {bound : ℕ} → ((i : ℕ) → i < length (front ++ es) → EntryRight (front ++ es) i)
    → length (front ++ es) ≤ bound → Below bound es
unfolding entry_at
right_below front [] right few = none
right_below front (e ∷ es) {bound} right few =
    let size = length-append front (e ∷ es) in
    let here : EntryRight (front ++ e ∷ es) (length front) = right (length front) (omega arith) in
    let same : entry_at (front ++ e ∷ es) (length front) ≡ e = get_or_at front e es _ (length front) refl in
    let left : e.left ≤ length front = rw same at (operand_small _ _ _ _ here.left) in
    let more : e.right ≤ length front = rw same at (operand_small _ _ _ _ here.right) in
    let next : (front ++ e ∷ []) ++ es ≡ front ++ e ∷ es = append_assoc front (e ∷ []) es in
    one {e = e} (omega arith) (omega arith) (right_below (front ++ e ∷ []) es (rw (← next) at right) (rw next few))

-- Entries written behind a table that is whole, all of them in order.
pub table_back : (front : Bytes) (es : Entries) {h : ℕ} → length front % 6 ≡ 0 → Sound (entries front ++ es) h
    → length (entries front ++ es) ≤ 65536
    → entries (front ++ entry_bytes es) ≡ entries front ++ es
table_back front es whole sound few =
    entries_of_both front (entry_bytes es) whole
    ∙ ap (λ (l : Entries). entries front ++ l) (entries_back (right_below (entries front) es sound.right few))
