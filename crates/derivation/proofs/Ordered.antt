-- The table of a path that has a text is in order: each entry is right, and the last is a path. Assumes nothing.
use Prim.Native.Nat.{ℕ, ◌+◌, ◌-◌, ◌≤◌, ◌<◌}
use native.Mathlib.Nat.{zero-add}
use native.Mathlib.Omega.{arith}
use mathlib.Core.Path.{◌≡◌, refl, subst}
use mathlib.Core.Bool.{false}
use mathlib.Core.List.{[], ◌∷◌, ◌++◌, append_assoc}
use mathlib.Core.Option.{some}
use lib.ListN.{length, length-append}
use Rattle.reply.specs.Bytes.{Bytes}
use Rattle.tree.specs.Tree.{Label}
use Rattle.query.specs.Kind.{Sort, path, filter, unused, of, Row, find, kinds, row_of}
use Rattle.query.specs.Syntax.{Path}
use Rattle.query.specs.Table.{Entry, Entries, HasSort, LabelField, OperandField, EntryRight}
use Rattle.query.proofs.Appended.{AllRight, both_right, sort_kept, sort_at_end, right_at_end}
use Rattle.text.specs.Grammar.{LabelText, one_digit, two_digits, PathText}
use Rattle.text.specs.Grammar as grammar
use Rattle.text.specs.Written.{path_entries, filter_entries, table_of}

-- a label of a text is a label
pub label_read : {s : Bytes} {l : ℕ} → LabelText s l → Label l
label_read (one_digit a b) = record { least = a; most = omega arith }
label_read (two_digits a b c) = record { least = omega arith; most = c }

-- Behind other entries, these are in order, and the last is of the sort.
record Ordered (before es : Entries) (s : Sort) : Type 0 where
  some : 1 ≤ length es
  all : AllRight before es
  last : HasSort (before ++ es) (length before + length es - 1) s

module _ {before es : Entries} where
  -- one more entry
  closed : (e : Entry) (row : Row) → row_of e.kind ≡ some row → AllRight before es → LabelField row.label e.label
      → OperandField (before ++ es) (length (before ++ es)) row.left e.left
      → OperandField (before ++ es) (length (before ++ es)) row.right e.right
      → Ordered before (es ++ e ∷ []) row.sort
  closed e row listed all label left right =
      let size = length-append before es in
      let longer = length-append es (e ∷ []) in
      let place : length (before ++ es) ≡ length before + length (es ++ e ∷ []) - 1 = omega arith in
      record {
        some = omega arith;
        all = both_right all (right_at_end (before ++ es) e row listed label left right);
        last = subst (λ (t : Entries). HasSort t (length before + length (es ++ e ∷ []) - 1) row.sort) (append_assoc before es (e ∷ []))
            (subst (λ (i : ℕ). HasSort ((before ++ es) ++ e ∷ []) i row.sort) place (sort_at_end (before ++ es) e row listed));
      }

  -- the last entry, as the operand of one behind it
  operand : {s : Sort} → Ordered before es s → OperandField (before ++ es) (length (before ++ es)) (of s) (length before + length es - 1)
  unfolding OperandField
  operand o = (omega (arith, length-append before es, o.some), o.last)

-- no entries are in order
none_right : {before : Entries} → AllRight before []
none_right = record { each = λ i l h. absurd (omega arith) }

-- An entry of a kind with a row, without operands, behind one operand, and behind two.
module _ (before : Entries) (kind : ℕ) {row : Row} (listed : row_of kind ≡ some row) where
  -- without operands
  alone : {label : ℕ} → row.left ≡ unused → row.right ≡ unused → LabelField row.label label
      → Ordered before (record { kind = kind; label = label; left = 0; right = 0 } ∷ []) row.sort
  unfolding OperandField
  alone {label = label} l r used =
      closed (record { kind = kind; label = label; left = 0; right = 0 }) row listed none_right used
      (rw l refl)
      (rw r refl)

  -- behind one
  behind_one : {s : Sort} {es : Entries} → row.left ≡ of s → row.right ≡ unused → row.label ≡ false → Ordered before es s
      → Ordered before (es ++ record { kind = kind; label = 0; left = length before + length es - 1; right = 0 } ∷ []) row.sort
  unfolding OperandField LabelField
  behind_one {es = es} l r b o =
      closed (record { kind = kind; label = 0; left = length before + length es - 1; right = 0 }) row listed o.all
      (rw b refl)
      (rw l (operand o))
      (rw r refl)

  -- behind two
  behind_two : {s u : Sort} {es fs : Entries} → row.left ≡ of s → row.right ≡ of u → row.label ≡ false → Ordered before es s
      → Ordered (before ++ es) fs u
      → Ordered before (es ++ (fs ++ record { kind = kind; label = 0; left = length before + length es - 1; right = length before + length es + length fs - 1 } ∷ [])) row.sort
  unfolding OperandField LabelField
  behind_two {s = s} {u = u} {es = es} {fs = fs} l r b o q =
      let e : Entry =
      record { kind = kind; label = 0; left = length before + length es - 1; right = length before + length es + length fs - 1 } in
      let table : Entries = before ++ (es ++ fs) in
      let group : (before ++ es) ++ fs ≡ table = append_assoc before es fs in
      let size = length-append before es in
      let longer = length-append before (es ++ fs) in
      let size' = length-append es fs in
      let a = o.some in
      let c = q.some in
      let place : length (before ++ es) + length fs - 1 ≡ length before + length es + length fs - 1 = omega arith in
      let left : HasSort table (length before + length es - 1) s =
      subst (λ (t : Entries). HasSort t (length before + length es - 1) s) group
      (sort_kept (before ++ es) fs (length before + length es - 1) (omega arith) o.last) in
      let right : HasSort table (length before + length es + length fs - 1) u =
      subst (λ (t : Entries). HasSort t (length before + length es + length fs - 1) u) group
      (subst (λ (i : ℕ). HasSort ((before ++ es) ++ fs) i u) place q.last) in
      subst (λ (all : Entries). Ordered before all row.sort) (append_assoc es fs (e ∷ []))
      (closed {before = before} {es = es ++ fs} e row listed (both_right o.all q.all) (rw b refl)
      (rw l (omega arith, left))
      (rw r (omega arith, right)))

-- Behind any entries, what is written for x is in order.
abbrev InOrder : {A : Type 0} → (ℕ → A → Entries) → Sort → A → Type 0
InOrder written s x = (before : Entries) → Ordered before (written (length before) x) s

-- two things that are joined
joined : {A : Type 0} (written : ℕ → A → Entries) {s : Sort} (kind : ℕ) {row : Row} (x y : A) → row_of kind ≡ some row → row.left ≡ of s
    → row.right ≡ of s → row.label ≡ false
    → InOrder written s x → InOrder written s y → (before : Entries)
    → let es : Entries = written (length before) x in
    let m : ℕ = length before + length es in
    Ordered before (es ++ (written m y ++ record { kind = kind; label = 0; left = m - 1; right = m + length (written m y) - 1 } ∷ [])) row.sort
joined written {s = s} kind x y listed l r b h k before =
    let es : Entries = written (length before) x in
    behind_two before kind listed l r b (h before)
    (subst (λ (m : ℕ). Ordered (before ++ es) (written m y) s) (length-append before es) (k (before ++ es)))

-- by induction over the grammar, all kinds at once
path_ordered : {s : Bytes} {p : Path} → PathText s p → InOrder path_entries path p
unfolding path_entries find kinds LabelField
path_ordered x =
    elim x as (λ s p y. InOrder path_entries path p) (λ s p y. InOrder path_entries path p)
    (λ s p y. InOrder path_entries path p) (λ s p y. InOrder path_entries path p)
    (λ s f y. InOrder filter_entries filter f) (λ s f y. InOrder filter_entries filter f) (λ s f y. InOrder filter_entries filter f) [
      | grammar.one_sequence (x → h) ↦ h
      | grammar.bar {p = p} {q = q} (x → h) (y → k) ↦ joined path_entries 8 p q refl refl refl refl h k
      | grammar.one_item (x → h) ↦ h
      | grammar.slash {p = p} {q = q} (x → h) (y → k) ↦ joined path_entries 7 p q refl refl refl refl h k
      | grammar.an_atom (x → h) ↦ h
      | grammar.starred (x → h) ↦ λ before. behind_one before 9 refl refl refl refl (h before)
      | grammar.dot ↦ λ before. alone before 1 refl refl refl refl
      | grammar.letter_v ↦ λ before. alone before 2 refl refl refl refl
      | grammar.caret ↦ λ before. alone before 3 refl refl refl refl
      | grammar.greater ↦ λ before. alone before 4 refl refl refl refl
      | grammar.less ↦ λ before. alone before 5 refl refl refl refl
      | grammar.square (x → h) ↦ λ before. behind_one before 6 refl refl refl refl (h before)
      | grammar.round (x → h) ↦ h
      | grammar.one_conjunction (x → h) ↦ h
      | grammar.plus {f = f} {g = g} (x → h) (y → k) ↦ joined filter_entries 22 f g refl refl refl refl h k
      | grammar.one_term (x → h) ↦ h
      | grammar.ampersand {f = f} {g = g} (x → h) (y → k) ↦ joined filter_entries 21 f g refl refl refl refl h k
      | grammar.exclamation (x → h) ↦ λ before. behind_one before 20 refl refl refl refl (h before)
      | grammar.letter_t ↦ λ before. alone before 18 refl refl refl refl
      | grammar.letter_f ↦ λ before. alone before 19 refl refl refl refl
      | grammar.hash x ↦ λ before. alone before 16 refl refl refl (label_read x)
      | grammar.curly (x → h) ↦ h
      | grammar.a_path (x → h) ↦ λ before. behind_one before 17 refl refl refl refl (h before)
    ]

-- The table of a path that has a text: each entry is right, and the last is a path.
pub record TableOrdered (es : Entries) : Type 0 where
  pub some : 1 ≤ length es
  pub right : (i : ℕ) → i < length es → EntryRight es i
  pub last : HasSort es (length es - 1) path

-- it is in order
pub text_ordered : {s : Bytes} {p : Path} → PathText s p → TableOrdered (table_of p)
unfolding table_of
text_ordered {p = p} x =
    let o = path_ordered x [] in
    record { some = o.some; right = λ i l. o.all.each i (omega arith) (omega arith); last = rw zero-add at o.last }
