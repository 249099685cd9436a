-- A path's table, read back, stands for the path, and its bytes are read back as its entries. Assumes nothing.
use Prim.Native.Nat.{ℕ, ◌+◌, ◌-◌, ◌≤◌, ◌<◌}
use native.Mathlib.Nat.{zero-add}
use native.Mathlib.Omega.{arith}
use mathlib.Core.Path.{◌≡◌, refl, ap, ◌∙◌}
use mathlib.Core.List.{List, [], ◌∷◌, ◌++◌, append_assoc}
use lib.ListN.{length, get_or, length-append}
use lib.Seq.{get_or_at}
use Rattle.query.specs.Kind.{find, kinds}
use Rattle.query.specs.Syntax.{Path, self, child, parent, next, previous, stay, then, either, star}
use Rattle.query.specs.Syntax.{Filter, labelled, leads, always, never, not, and, or}
use Rattle.query.specs.Table.{Entry, Entries, entries, entry_bytes, read_on, Meant, a_path, a_filter, the_path, the_filter, path_in, filter_in}
use Rattle.query.specs.Table.{build, mean, meanings, query_of}
use Rattle.query.proofs.Bytes.{Below, none, one, entries_back}
use Rattle.query.proofs.Tables.{read_length, read_append, read_keeps}
use Rattle.text.specs.Written.{path_entries, filter_entries, table_of}

-- what an entry stands for, by its number
abbrev meant_at : List Meant → ℕ → Meant
meant_at l i = get_or l i (a_path self)

-- Read behind others, the last of these entries stands for x.
record Last (before : List Meant) (es : Entries) (x : Meant) : Type 0 where
  some : 1 ≤ length es
  last : meant_at (read_on mean before es) (length before + length es - 1) ≡ x

module _ (before : List Meant) where
  -- the last entry stands for what it means behind the others
  written : (es : Entries) (e : Entry) → Last before (es ++ e ∷ []) (mean (read_on mean before es) e)
  unfolding read_on
  written es e =
      let size = length-append es (e ∷ []) in
      let place : length (read_on mean before es) ≡ length before + length (es ++ e ∷ []) - 1 = omega (arith, read_length mean before es) in
      record {
        some = omega arith;
        last =
            ap (λ (l : List Meant). meant_at l (length before + length (es ++ e ∷ []) - 1)) (read_append mean before es (e ∷ []))
            ∙ get_or_at (read_on mean before es) (mean (read_on mean before es) e) [] (a_path self) (length before + length (es ++ e ∷ []) - 1) place;
      }

  module _ (n : ℕ) (count : length before ≡ n) where
    -- how many entries there are then
    next_count : (es : Entries) → length (read_on mean before es) ≡ n + length es
    next_count es = omega (arith, read_length mean before es)

    -- the operand that was written last
    operand : {x : Meant} (es : Entries) → Last before es x → meant_at (read_on mean before es) (n + length es - 1) ≡ x
    operand es l = rw count at l.last

    -- an entry behind its operand
    behind_one : {x : Meant} (k : Meant → Meant) (es : Entries) (e : Entry) → Last before es x
        → mean (read_on mean before es) e ≡ k (meant_at (read_on mean before es) (n + length es - 1)) → Last before (es ++ e ∷ []) (k x)
    behind_one k es e l m = rw (← operand es l, ← m) (written es e)

    -- an entry behind its two operands
    behind_two : {x y : Meant} (k : Meant → Meant → Meant) (left right : Entries) (e : Entry) → Last before left x
        → Last (read_on mean before left) right y
        → let l : List Meant = read_on mean (read_on mean before left) right in
        mean l e ≡ k (meant_at l (n + length left - 1)) (meant_at l (n + length left + length right - 1))
        → Last before (left ++ (right ++ e ∷ [])) (k x y)
    behind_two {x} {y} k left right e l r m =
        let there : Last before (left ++ (right ++ e ∷ [])) (mean (read_on mean (read_on mean before left) right) e) =
        rw (append_assoc, read_append) at (written (left ++ right) e) in
        let some : n + length left - 1 < length (read_on mean before left) = omega (arith, next_count left, l.some) in
        let first : meant_at (read_on mean (read_on mean before left) right) (n + length left - 1) ≡ x =
        read_keeps mean (read_on mean before left) right (n + length left - 1) (a_path self) some ∙ operand left l in
        let second : meant_at (read_on mean (read_on mean before left) right) (n + length left + length right - 1) ≡ y =
        rw (next_count left) at r.last in
        rw (← first, ← second, ← m) there

-- The last entry of a path stands for the path, and of a filter for the filter.
mutual
  unfolding path_entries read_on mean build find kinds path_in filter_in the_path the_filter

  path_last : (p : Path) (before : List Meant) (n : ℕ) → length before ≡ n → Last before (path_entries n p) (a_path p)
  path_last self before n e = written before [] _
  path_last child before n e = written before [] _
  path_last parent before n e = written before [] _
  path_last next before n e = written before [] _
  path_last previous before n e = written before [] _
  path_last (stay f) before n e =
      behind_one before n e (λ x. a_path (stay (the_filter x))) (filter_entries n f) _ (filter_last f before n e) refl
  path_last (then p q) before n e =
      let left : Entries = path_entries n p in
      behind_two before n e (λ x y. a_path (then (the_path x) (the_path y))) left (path_entries (n + length left) q) _
      (path_last p before n e) (path_last q (read_on mean before left) (n + length left) (next_count before n e left)) refl
  path_last (either p q) before n e =
      let left : Entries = path_entries n p in
      behind_two before n e (λ x y. a_path (either (the_path x) (the_path y))) left (path_entries (n + length left) q) _
      (path_last p before n e) (path_last q (read_on mean before left) (n + length left) (next_count before n e left)) refl
  path_last (star p) before n e = behind_one before n e (λ x. a_path (star (the_path x))) (path_entries n p) _ (path_last p before n e) refl

  filter_last : (f : Filter) (before : List Meant) (n : ℕ) → length before ≡ n → Last before (filter_entries n f) (a_filter f)
  filter_last (labelled l) before n e = written before [] _
  filter_last (leads p) before n e =
      behind_one before n e (λ x. a_filter (leads (the_path x))) (path_entries n p) _ (path_last p before n e) refl
  filter_last always before n e = written before [] _
  filter_last never before n e = written before [] _
  filter_last (not f) before n e =
      behind_one before n e (λ x. a_filter (not (the_filter x))) (filter_entries n f) _ (filter_last f before n e) refl
  filter_last (and f g) before n e =
      let left : Entries = filter_entries n f in
      behind_two before n e (λ x y. a_filter (and (the_filter x) (the_filter y))) left (filter_entries (n + length left) g) _
      (filter_last f before n e) (filter_last g (read_on mean before left) (n + length left) (next_count before n e left)) refl
  filter_last (or f g) before n e =
      let left : Entries = filter_entries n f in
      behind_two before n e (λ x y. a_filter (or (the_filter x) (the_filter y))) left (filter_entries (n + length left) g) _
      (filter_last f before n e) (filter_last g (read_on mean before left) (n + length left) (next_count before n e left)) refl

-- "the last entry of a query table is the query": a path's table is the path's
pub query_back : (p : Path) → query_of (table_of p) ≡ p
unfolding query_of meanings table_of path_in the_path
query_back p = ap the_path (rw zero-add at (path_last p [] 0 refl).last)

-- the operands' numbers of two lists together are below a bound
below_append : {bound : ℕ} {es more : Entries} → Below bound es → Below bound more → Below bound (es ++ more)
below_append none y = y
below_append (one l r x) y = one l r (below_append x y)

-- below a greater bound
below_more : {bound more : ℕ} {es : Entries} → bound ≤ more → Below bound es → Below more es
below_more h none = none
below_more h (one {e = e} l r x) = one {e = e} (omega arith) (omega arith) (below_more h x)

-- with n entries before them, an entry behind none, one or two operands names operands below its own number
module _ (n kind : ℕ) where
  -- behind none
  none_below : (label : ℕ) → Below (n + 1) (record { kind = kind; label = label; left = 0; right = 0 } ∷ [])
  none_below label = one {e = record { kind = kind; label = label; left = 0; right = 0 }} (omega arith) (omega arith) none

  -- behind one
  one_below : (es : Entries) → Below (n + length es) es
      → let new : Entries = es ++ record { kind = kind; label = 0; left = n + length es - 1; right = 0 } ∷ [] in Below (n + length new) new
  one_below es x =
      let e : Entry = record { kind = kind; label = 0; left = n + length es - 1; right = 0 } in
      let size = length-append es (e ∷ []) in
      below_append (below_more (omega arith) x) (one {e = e} (omega arith) (omega arith) none)

  -- behind two
  two_below : (left right : Entries) → Below (n + length left) left → Below (n + length left + length right) right
      → let new : Entries = left ++ (right ++ record { kind = kind; label = 0; left = n + length left - 1; right = n + length left + length right - 1 } ∷ []) in Below (n + length new) new
  two_below left right x y =
      let e : Entry = record { kind = kind; label = 0; left = n + length left - 1; right = n + length left + length right - 1 } in
      let size = length-append left (right ++ e ∷ []) in
      let size' = length-append right (e ∷ []) in
      below_append (below_more (omega arith) x) (below_append (below_more (omega arith) y) (one {e = e} (omega arith) (omega arith) none))

-- Every entry of a path or filter names entries before itself.
mutual
  unfolding path_entries

  path_below : (p : Path) (n : ℕ) → Below (n + length (path_entries n p)) (path_entries n p)
  path_below self n = none_below n 1 0
  path_below child n = none_below n 2 0
  path_below parent n = none_below n 3 0
  path_below next n = none_below n 4 0
  path_below previous n = none_below n 5 0
  path_below (stay f) n = one_below n 6 (filter_entries n f) (filter_below f n)
  path_below (then p q) n =
      let left : Entries = path_entries n p in
      two_below n 7 left (path_entries (n + length left) q) (path_below p n) (path_below q (n + length left))
  path_below (either p q) n =
      let left : Entries = path_entries n p in
      two_below n 8 left (path_entries (n + length left) q) (path_below p n) (path_below q (n + length left))
  path_below (star p) n = one_below n 9 (path_entries n p) (path_below p n)

  filter_below : (f : Filter) (n : ℕ) → Below (n + length (filter_entries n f)) (filter_entries n f)
  filter_below (labelled l) n = none_below n 16 l
  filter_below (leads p) n = one_below n 17 (path_entries n p) (path_below p n)
  filter_below always n = none_below n 18 0
  filter_below never n = none_below n 19 0
  filter_below (not f) n = one_below n 20 (filter_entries n f) (filter_below f n)
  filter_below (and f g) n =
      let left : Entries = filter_entries n f in
      two_below n 21 left (filter_entries (n + length left) g) (filter_below f n) (filter_below g (n + length left))
  filter_below (or f g) n =
      let left : Entries = filter_entries n f in
      two_below n 22 left (filter_entries (n + length left) g) (filter_below f n) (filter_below g (n + length left))

-- the bytes written for a path are read back as its table, if the entries' numbers have two bytes
pub table_back : (p : Path) → length (table_of p) ≤ 65536 → entries (entry_bytes (table_of p)) ≡ table_of p
unfolding table_of
table_back p few = entries_back (below_more (omega arith) (path_below p 0))
