-- Entries behind entries: what is in order in a table stays in order, and an entry behind its operands is in order. Assumes nothing.
use Prim.Native.Nat.{ℕ, ◌+◌, ◌≤◌, ◌<◌}
use native.Mathlib.Decide.{dec_lt}
use native.Mathlib.Omega.{arith}
use mathlib.Core.Path.{◌≡◌, refl, sym, ap, ◌∙◌, subst}
use mathlib.Core.List.{[], ◌∷◌, ◌++◌, append_assoc}
use mathlib.Core.Option.{some}
use lib.ListN.{length, length-append, get_or-append}
use lib.Seq.{get_or_at}
use Rattle.query.specs.Kind.{Sort, Operand, unused, of, Row, row_of}
use Rattle.query.specs.Table.{Entry, Entries, entry_at, row_at, HasSort, LabelField, OperandField, EntryRight}

module _ (es more : Entries) where
  -- an entry of the front stays what it is
  entry_kept : (i : ℕ) → i < length es → entry_at (es ++ more) i ≡ entry_at es i
  unfolding entry_at
  entry_kept i l = get_or-append es more (record { kind = 0; label = 0; left = 0; right = 0 }) i l

  -- so does its sort
  pub sort_kept : (i : ℕ) {s : Sort} → i < length es → HasSort es i s → HasSort (es ++ more) i s
  unfolding row_at
  sort_kept i l h = record { row = h.row; listed = ap (λ (e : Entry). row_of e.kind) (entry_kept i l) ∙ h.listed; sort = h.sort }

  -- and an operand that is in order
  pub operand_kept : (i : ℕ) (o : Operand) (x : ℕ) → i ≤ length es → OperandField es i o x → OperandField (es ++ more) i o x
  unfolding OperandField
  operand_kept i unused x l h = h
  operand_kept i (of s) x l h = (h.0, sort_kept x (omega (arith, h.0)) h.1)

  -- an entry in order stays in order
  pub right_kept : (i : ℕ) → i < length es → EntryRight es i → EntryRight (es ++ more) i
  unfolding row_at
  right_kept i l r =
      let same : entry_at es i ≡ entry_at (es ++ more) i = sym (entry_kept i l) in
      record {
        row = r.row;
        listed = ap (λ (e : Entry). row_of e.kind) (entry_kept i l) ∙ r.listed;
        label = subst (λ (e : Entry). LabelField r.row.label e.label) same r.label;
        left = subst (λ (e : Entry). OperandField (es ++ more) i r.row.left e.left) same (operand_kept i r.row.left (entry_at es i).left (omega arith) r.left);
        right = subst (λ (e : Entry). OperandField (es ++ more) i r.row.right e.right) same (operand_kept i r.row.right (entry_at es i).right (omega arith) r.right);
      }

-- Each of the entries behind others is in order.
pub record AllRight (before es : Entries) : Type 0 where
  pub each : (i : ℕ) → length before ≤ i → i < length before + length es → EntryRight (before ++ es) i

-- entries in order, and more of them behind
pub both_right : {before es more : Entries} → AllRight before es → AllRight (before ++ es) more → AllRight before (es ++ more)
both_right {before} {es} {more} a b = record { each = λ i l h. subst (λ (all : Entries). EntryRight all i) (append_assoc before es more) (part i l h (dec_lt i (length before + length es))) }
  where
    size : length (before ++ es) ≡ length before + length es
    size = length-append before es

    part : (i : ℕ) → length before ≤ i → i < length before + length (es ++ more) → Dec (i < length before + length es) → EntryRight ((before ++ es) ++ more) i
    part i l h (yes front) = right_kept (before ++ es) more i (omega (arith, size)) (a.each i l front)
    part i l h (no behind) = b.each i (omega (arith, size)) (omega (arith, size, length-append es more))

-- An entry at the end of a table, of a kind in the list, with its label and its operands in order.
module _ (table : Entries) (e : Entry) (row : Row) (listed : row_of e.kind ≡ some row) where
  -- it is the last
  at_end : entry_at (table ++ e ∷ []) (length table) ≡ e
  unfolding entry_at
  at_end = get_or_at table e [] (record { kind = 0; label = 0; left = 0; right = 0 }) (length table) refl

  -- its row is its kind's
  row_at_end : row_at (table ++ e ∷ []) (length table) ≡ some row
  unfolding row_at
  row_at_end = ap (λ (x : Entry). row_of x.kind) at_end ∙ listed

  -- it has its kind's sort
  pub sort_at_end : HasSort (table ++ e ∷ []) (length table) row.sort
  sort_at_end = record { row = row; listed = row_at_end; sort = refl }

  -- it is in order
  pub right_at_end : LabelField row.label e.label → OperandField table (length table) row.left e.left → OperandField table (length table) row.right e.right
      → AllRight table (e ∷ [])
  right_at_end label left right = record { each = λ i l h. subst (EntryRight (table ++ e ∷ [])) (omega arith) end }
    where
      same : e ≡ entry_at (table ++ e ∷ []) (length table)
      same = sym at_end

      end : EntryRight (table ++ e ∷ []) (length table)
      end =
          record {
            row = row;
            listed = row_at_end;
            label = subst (λ (x : Entry). LabelField row.label x.label) same label;
            left = subst (λ (x : Entry). OperandField (table ++ e ∷ []) (length table) row.left x.left) same (operand_kept table (e ∷ []) (length table) row.left e.left (omega arith) left);
            right = subst (λ (x : Entry). OperandField (table ++ e ∷ []) (length table) row.right x.right) same (operand_kept table (e ∷ []) (length table) row.right e.right (omega arith) right);
          }
