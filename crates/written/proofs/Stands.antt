-- What an entry of a table stands for, with its sort and a bound on its height, in one record, which entries behind it keep; and an entry
-- at the end of a table, whose operands are entries that stand for what they should. Assumes nothing.
use Prim.Native.Nat.{ℕ, suc, ◌+◌, ◌≤◌, ◌<◌, max}
use native.Mathlib.Nat.{max-le, le-max_left, le-max_right}
use native.Mathlib.Decide.{dec_lt}
use native.Mathlib.Omega.{arith}
use mathlib.Core.Path.{◌≡◌, refl, sym, ap, ap₂, ◌∙◌}
use mathlib.Core.List.{List, [], ◌∷◌, ◌++◌}
use mathlib.Core.Option.{Option, none, some}
use lib.ListN.{length, get_or, take, length-append, get_or-append}
use lib.Seq.{get_or_at}
use Rattle.query.specs.Syntax as syntax
use Rattle.query.specs.Kind.{Sort, path, filter, Operand, unused, of, Row, kinds, row_of}
use Rattle.query.specs.Table.{Entry, Entries, entry_at, row_at, HasSort, LabelField, OperandField, EntryRight, read_on, operand_height, height, height_at, Meant, a_path, a_filter, the_path, the_filter, path_in, filter_in, build, mean, meanings, filter_at}
use Rattle.query.proofs.Rows.{Each, ◌&◌, no_more, row_found}
use Rattle.query.proofs.Tables.{read_length, read_append, read_prefix, read_at}
use Rattle.query.proofs.Appended.{sort_kept, right_kept, AllRight, sort_at_end, right_at_end}
use Rattle.tables.specs.Shape.{left_of, right_of}
use Rattle.written.specs.Written.{moved, renumber}

-- what stands where there is nothing
abbrev pub nothing : Meant
nothing = a_path syntax.self

-- the sort of what an entry stands for
abbrev pub sort_for : Meant → Sort
sort_for (a_path p) = path
sort_for (a_filter f) = filter

-- Entry i stands for x, and is at most h high.
pub record Stands (table : Entries) (i : ℕ) (x : Meant) (h : ℕ) : Type 0 where
  pub inside : i < length table
  pub sort : HasSort table i (sort_for x)
  pub means : get_or (meanings table) i nothing ≡ x
  pub low : height_at table i ≤ h

-- it does so in every longer table
pub stands_kept : {table : Entries} {i : ℕ} {x : Meant} {h : ℕ} (more : Entries) → Stands table i x h → Stands (table ++ more) i x h
unfolding meanings height_at
stands_kept {table} {i} {x} {h} more s =
    record {
      inside = omega (arith, length-append table more, s.inside);
      sort = sort_kept table more i s.inside s.sort;
      means = read_prefix mean table more i nothing s.inside ∙ s.means;
      low = rw (read_prefix height table more i 0 s.inside) s.low;
    }

-- the same under an equal number, with a greater bound
pub stands_as : {table : Entries} {i j : ℕ} {x : Meant} {h h' : ℕ} → i ≡ j → h ≤ h' → Stands table i x h → Stands table j x h'
stands_as {table} {j = j} {x = x} {h = h} e l s =
    let at : Stands table j x h = rw e at s in
    record { inside = at.inside; sort = at.sort; means = at.means; low = omega (arith, at.low) }

-- Every entry is in order, and at most h high.
pub record Sound (table : Entries) (h : ℕ) : Type 0 where
  pub right : (i : ℕ) → i < length table → EntryRight table i
  pub low : (i : ℕ) → i < length table → height_at table i ≤ h

-- a greater bound is one too
pub sound_lower : {table : Entries} {h h' : ℕ} → h ≤ h' → Sound table h → Sound table h'
sound_lower l s = record { right = s.right; low = λ i w. omega (arith, s.low i w) }

-- what is read of the last entry
pub at_end : {A : Type 0} (read : List A → Entry → A) (table : Entries) (e : Entry) (d : A)
    → get_or (read_on read [] (table ++ e ∷ [])) (length table) d ≡ read (read_on read [] table) e
unfolding read_on
at_end {A} read table e d =
    ap (λ (l : List A). get_or l (length table) d) (read_append read [] table (e ∷ []))
    ∙ get_or_at (read_on read [] table) (read (read_on read [] table) e) [] d (length table) (omega (arith, read_length read [] table))

-- an entry in order behind a sound table
sound_more : {table : Entries} {h : ℕ} (e : Entry) → Sound table h → AllRight table (e ∷ [])
    → height_at (table ++ e ∷ []) (length table) ≤ h → Sound (table ++ e ∷ []) h
unfolding height_at
sound_more {table} {h} e s right low =
    record { right = λ i l. rights i l (dec_lt i (length table)); low = λ i l. lows i l (dec_lt i (length table)) }
  where
    size : length (table ++ e ∷ []) ≡ suc (length table)
    size = omega (arith, length-append table (e ∷ []))

    rights : (i : ℕ) → i < length (table ++ e ∷ []) → Dec (i < length table) → EntryRight (table ++ e ∷ []) i
    rights i l (yes front) = right_kept table (e ∷ []) i front (s.right i front)
    rights i l (no behind) = right.each i (omega arith) (omega (arith, size))

    lows : (i : ℕ) → i < length (table ++ e ∷ []) → Dec (i < length table) → height_at (table ++ e ∷ []) i ≤ h
    lows i l (yes front) = rw (read_prefix height table (e ∷ []) i 0 front) (s.low i front)
    lows i l (no behind) = let last : i ≡ length table = omega (arith, size) in rw last low

-- An entry behind a table is in order, stands for x and is at most h high.
pub record EntryBehind (table : Entries) (e : Entry) (x : Meant) (h : ℕ) : Type 0 where
  pub right : AllRight table (e ∷ [])
  pub stands : Stands (table ++ e ∷ []) (length table) x h

-- a greater bound is one too
pub behind_as : {table : Entries} {e : Entry} {x : Meant} {h h' : ℕ} → h ≤ h' → EntryBehind table e x h → EntryBehind table e x h'
behind_as l end = record { right = end.right; stands = stands_as refl l end.stands }

-- the table stays sound
pub sound_end : {table : Entries} {e : Entry} {x : Meant} {k h : ℕ} → EntryBehind table e x k → k ≤ h → Sound table h → Sound (table ++ e ∷ []) h
sound_end {e = e} end l sound = sound_more e sound end.right (omega (arith, end.stands.low))

-- The field of an operand that names one of the things in a list, of the sort that it wants.
unfoldable pub Named : List Meant → Operand → ℕ → Type 0
Named s unused x = x ≡ 0
Named s (of sort) x = (x < length s) × (sort_for (get_or s x nothing) ≡ sort)

-- An entry whose operands are numbered in a list of things that stand somewhere.
pub record Ordered (s : List Meant) (e : Entry) : Type 0 where
  pub row : Row
  pub listed : row_of e.kind ≡ some row
  pub label : LabelField row.label e.label
  pub left : Named s row.left e.left
  pub right : Named s row.right e.right

-- Thing k of a list stands in the table as entry `to k`, at most c higher than a list of heights says.
pub record Stood (c : ℕ) (to : ℕ → ℕ) (s : List Meant) (hs : List ℕ) (table : Entries) : Type 0 where
  pub size : length hs ≡ length s
  pub each : (k : ℕ) → k < length s → Stands table (to k) (get_or s k nothing) (c + get_or hs k 0)

-- they do so in every longer table
pub stood_kept : {c : ℕ} {to : ℕ → ℕ} {s : List Meant} {hs : List ℕ} {table : Entries} (more : Entries) → Stood c to s hs table
    → Stood c to s hs (table ++ more)
stood_kept more stood = record { size = stood.size; each = λ k l. stands_kept more (stood.each k l) }

-- The things that come next will be the table's next entries.
pub record Next (to : ℕ → ℕ) (s : List Meant) (table : Entries) : Type 0 where
  pub place : (k j : ℕ) → k ≡ length s + j → to k ≡ length table + j

-- one more thing, which the table's next entry stands for
module _ {to : ℕ → ℕ} {s : List Meant} {table : Entries} (x : Meant) (e : Entry) (next : Next to s table) where
  pub next_end : Next to (s ++ x ∷ []) (table ++ e ∷ [])
  next_end =
      let more = length-append s (x ∷ []) in
      let longer = length-append table (e ∷ []) in
      record { place = λ k j l. next.place k (suc j) (omega arith) ∙ omega arith }

  pub stood_end : {c : ℕ} {hs : List ℕ} (h : ℕ) → Stood c to s hs table → EntryBehind table e x (c + h)
      → Stood c to (s ++ x ∷ []) (hs ++ h ∷ []) (table ++ e ∷ [])
  stood_end {c} {hs} h stood new =
      let more = length-append s (x ∷ []) in
      let higher = length-append hs (h ∷ []) in
      record { size = omega (arith, stood.size); each = λ k l. at k l (dec_lt k (length s)) }
    where
      at : (k : ℕ) → k < length (s ++ x ∷ []) → Dec (k < length s)
          → Stands (table ++ e ∷ []) (to k) (get_or (s ++ x ∷ []) k nothing) (c + get_or (hs ++ h ∷ []) k 0)
      at k l (yes old) =
          rw (get_or-append s (x ∷ []) nothing k old, get_or-append hs (h ∷ []) 0 k (omega (arith, stood.size)))
          (stands_kept (e ∷ []) (stood.each k old))
      at k l (no last) =
          let end : k ≡ length s = omega (arith, length-append s (x ∷ [])) in
          let place : to k ≡ length table = next.place k 0 (omega arith) ∙ omega arith in
          rw (place, get_or_at s x [] nothing k (sym end), get_or_at hs h [] 0 k (stood.size ∙ sym end)) new.stands

-- what an entry of a listed kind means, and its height
pub mean_listed : (s : List Meant) (e : Entry) {row : Row} → row_of e.kind ≡ some row → mean s e ≡ build s row.kind e
unfolding mean
mean_listed s e listed = ap (λ (r : Option Row). elim r [ none ↦ nothing | some row ↦ build s row.kind e ]) listed

pub height_listed : (hs : List ℕ) (e : Entry) {row : Row} → row_of e.kind ≡ some row
    → height hs e ≡ suc (max (operand_height hs row.left e.left) (operand_height hs row.right e.right))
unfolding height
height_listed hs e listed = ap (λ (r : Option Row). elim r [ none ↦ 1 | some row ↦ over row ]) listed
  where
    over : Row → ℕ
    over row = suc (max (operand_height hs row.left e.left) (operand_height hs row.right e.right))

-- an operand that is used means in one list what another number means in another
abbrev Carries : List Meant → List Meant → Operand → ℕ → ℕ → Type 0
Carries s m unused x y = Unit {0}
Carries s m (of sort) x y = get_or m y nothing ≡ get_or s x nothing

-- so the entry means the same
module _ (s m : List Meant) (e f : Entry) (label : f.label ≡ e.label) where
  abbrev Same : Row → Type 0
  Same row = Carries s m row.left e.left f.left → Carries s m row.right e.right f.right
      → build m row.kind f ≡ build s row.kind e

  build_same : Each Same kinds
  unfolding build kinds path_in filter_in
  build_same =
      (λ l r. refl)
      & (λ l r. refl)
      & (λ l r. refl)
      & (λ l r. refl)
      & (λ l r. refl)
      & (λ l r. ap (λ (x : Meant). a_path (syntax.stay (the_filter x))) l)
      & (λ l r. ap₂ (λ (x y : Meant). a_path (syntax.then (the_path x) (the_path y))) l r)
      & (λ l r. ap₂ (λ (x y : Meant). a_path (syntax.either (the_path x) (the_path y))) l r)
      & (λ l r. ap (λ (x : Meant). a_path (syntax.star (the_path x))) l)
      & (λ l r. ap (λ (x : ℕ). a_filter (syntax.labelled x)) label)
      & (λ l r. ap (λ (x : Meant). a_filter (syntax.leads (the_path x))) l)
      & (λ l r. refl)
      & (λ l r. refl)
      & (λ l r. ap (λ (x : Meant). a_filter (syntax.not (the_filter x))) l)
      & (λ l r. ap₂ (λ (x y : Meant). a_filter (syntax.and (the_filter x) (the_filter y))) l r)
      & (λ l r. ap₂ (λ (x y : Meant). a_filter (syntax.or (the_filter x) (the_filter y))) l r)
      & no_more

-- what is built has the kind's sort
build_sort : (s : List Meant) (e : Entry) {row : Row} → row_of e.kind ≡ some row → sort_for (build s row.kind e) ≡ row.sort
unfolding build kinds
build_sort s e listed =
    (row_found (λ row. sort_for (build s row.kind e) ≡ row.sort)
    (refl & refl & refl & refl & refl & refl & refl & refl & refl & refl & refl & refl & refl & refl & refl & refl & no_more) listed).0

-- An entry at the end of a table: its operands are things that stand in the table, under their numbers there.
module _ {c : ℕ} {to : ℕ → ℕ} {s : List Meant} {hs : List ℕ} {table : Entries} (stood : Stood c to s hs table) {e : Entry}
    (ordered : Ordered s e) where
  row : Row
  row = ordered.row

  -- the entry, renumbered
  moves : Entry
  moves = renumber to e

  moves_left : moves.left ≡ moved to row.left e.left
  unfolding moves renumber row
  moves_left = ap (λ (r : Option Row). moved to (left_of r) e.left) ordered.listed

  moves_right : moves.right ≡ moved to row.right e.right
  unfolding moves renumber row
  moves_right = ap (λ (r : Option Row). moved to (right_of r) e.right) ordered.listed

  -- its operands are in order
  operand_right : (o : Operand) (x : ℕ) → Named s o x → OperandField table (length table) o (moved to o x)
  unfolding Named OperandField moved
  operand_right unused x h = h
  operand_right (of path) x h = let st = stood.each x h.0 in (st.inside, rw h.1 at st.sort)
  operand_right (of filter) x h = let st = stood.each x h.0 in (st.inside, rw h.1 at st.sort)

  -- they stand for what they should
  operand_carries : (o : Operand) (x : ℕ) → Named s o x → Carries s (meanings table) o x (moved to o x)
  unfolding Named moved
  operand_carries unused x h = tt
  operand_carries (of path) x h = (stood.each x h.0).means
  operand_carries (of filter) x h = (stood.each x h.0).means

  -- they are no higher than they should be
  operand_low : (o : Operand) (x : ℕ) → Named s o x
      → operand_height (read_on height [] table) o (moved to o x) ≤ c + operand_height hs o x
  unfolding Named moved operand_height height_at
  operand_low unused x h = omega arith
  operand_low (of path) x h = (stood.each x h.0).low
  operand_low (of filter) x h = (stood.each x h.0).low

  -- so it is in order
  right_end : AllRight table (moves ∷ [])
  unfolding moves renumber row
  right_end =
      right_at_end table moves row ordered.listed ordered.label
      (rw moves_left (operand_right row.left e.left ordered.left))
      (rw moves_right (operand_right row.right e.right ordered.right))

  -- it stands for what the entry means in the list
  means_end : get_or (meanings (table ++ moves ∷ [])) (length table) nothing ≡ mean s e
  unfolding moves renumber row meanings
  means_end =
      let l = operand_carries row.left e.left ordered.left in
      let r = operand_carries row.right e.right ordered.right in
      let same = (row_found (Same s (meanings table) e moves refl) (build_same s (meanings table) e moves refl) ordered.listed).0 in
      at_end mean table moves nothing
      ∙ mean_listed (meanings table) moves ordered.listed
      ∙ same (rw moves_left l) (rw moves_right r)
      ∙ sym (mean_listed s e ordered.listed)

  -- and is no higher than it should be
  low_end : height_at (table ++ moves ∷ []) (length table) ≤ c + height hs e
  unfolding moves renumber row height_at
  low_end =
      let old : List ℕ = read_on height [] table in
      let l = operand_low row.left e.left ordered.left in
      let r = operand_low row.right e.right ordered.right in
      let hl : ℕ = operand_height hs row.left e.left in
      let hr : ℕ = operand_height hs row.right e.right in
      let both : max (operand_height old row.left moves.left) (operand_height old row.right moves.right) ≤ c + max hl hr =
      max-le (rw moves_left (omega (arith, l, le-max_left hl hr))) (rw moves_right (omega (arith, r, le-max_right hl hr))) in
      rw (at_end height table moves 0, height_listed old moves ordered.listed, height_listed hs e ordered.listed) (omega arith)

  -- all in one
  pub entry_behind : EntryBehind table (renumber to e) (mean s e) (c + height hs e)
  unfolding row moves renumber
  entry_behind =
      let same : row.sort ≡ sort_for (mean s e) = sym (ap sort_for (mean_listed s e ordered.listed) ∙ build_sort s e ordered.listed) in
      record {
        right = right_end;
        stands =
            record {
              inside = omega (arith, length-append table (moves ∷ []));
              sort = rw same at (sort_at_end table moves row ordered.listed);
              means = means_end;
              low = low_end;
            };
      }

-- Of a table's own entries: what has a sort stands for something of that sort.
module _ {table : Entries} {i : ℕ} (within : i < length table) where
  pub meant_sorted : {s : Sort} → HasSort table i s → sort_for (get_or (meanings table) i nothing) ≡ s
  unfolding meanings row_at entry_at
  meant_sorted has =
      let e : Entry = entry_at table i in
      let front : List Meant = take i (meanings table) in
      ap sort_for (read_at mean table i nothing _ within ∙ mean_listed front e has.listed)
      ∙ build_sort front e has.listed
      ∙ has.sort

  -- a filter entry stands for its filter
  pub filter_stands : {h : ℕ} → HasSort table i filter → height_at table i ≤ h → Stands table i (a_filter (filter_at table i)) h
  unfolding filter_at filter_in the_filter
  filter_stands has low = record { inside = within; sort = has; means = is (get_or (meanings table) i nothing) (meant_sorted has); low = low }
    where
      is : (m : Meant) → sort_for m ≡ filter → m ≡ a_filter (the_filter m)
      is (a_path p) e = let z : ◌≡◌ {A = ℕ} 0 1 = cc in absurd (omega arith)
      is (a_filter f) e = refl
