-- The query's own entries: behind a table in which the axes' rows stand, the entry for each entry of the query stands for the rewriting of
-- what that entry stands for. By induction over the entries, each seen once. Assumes nothing.
use Prim.Native.Nat.{ℕ, ◌+◌, ◌≤◌, ◌<◌}
use native.Mathlib.Omega.{arith}
use mathlib.Core.Path.{◌≡◌, refl, sym, ap, ap₂, ◌∙◌}
use mathlib.Core.List.{List, [], ◌∷◌, ◌++◌, map, append_assoc, append-nil, map-append}
use mathlib.Core.Option.{some}
use lib.ListN.{length, get_or, length-map, length-append, get_or-map, get_or-append}
use lib.Seq.{get_or_at}
use Rattle.query.specs.Syntax as syntax
use Rattle.query.specs.Syntax.{Path, Filter}
use Rattle.query.specs.Kind.{Sort, Operand, unused, of, Row, kinds, row_of}
use Rattle.query.specs.Table.{Entry, Entries, entry_at, row_at, HasSort, OperandField, EntryRight, read_on, height, height_at, Meant, a_path, a_filter, the_path, the_filter, path_in, filter_in, build, mean, meanings}
use Rattle.query.proofs.Rows.{Each, ◌&◌, no_more, row_found}
use Rattle.query.proofs.Tables.{read_length, read_append, read_prefix}
use Rattle.theorem.proofs.Rewriting.{rewritten, rewritten_filter}
use Rattle.written.specs.Written.{raise, axis_row, chosen, view_entry}
use Rattle.written.proofs.Stands.{nothing, sort_for, Sound, at_end, sound_end, EntryBehind, behind_as, Named, Ordered, Stood, stood_kept, Next, stood_end, entry_behind, mean_listed, height_listed, meant_sorted}
use Rattle.written.proofs.Axes.{seen_by, rows_meant, rows_heights, AxisRow, axis_rows_lem, axis_behind}

module _ (vis : Filter) where
  -- what an entry stands for, rewritten
  abbrev pub carry : Meant → Meant
  carry (a_path p) = a_path (rewritten vis p)
  carry (a_filter f) = a_filter (rewritten_filter vis f)

  -- its sort stays
  pub carry_sort : (m : Meant) → sort_for (carry m) ≡ sort_for m
  carry_sort (a_path p) = refl
  carry_sort (a_filter f) = refl

  carry_path : (m : Meant) → the_path (carry m) ≡ rewritten vis (the_path m)
  unfolding the_path rewritten
  carry_path (a_path p) = refl
  carry_path (a_filter f) = refl

  carry_filter : (m : Meant) → the_filter (carry m) ≡ rewritten_filter vis (the_filter m)
  unfolding the_filter rewritten
  carry_filter (a_path p) = refl
  carry_filter (a_filter f) = refl

  module _ (s : List Meant) where
    -- a look-up among rewritten things
    pub carry_at : (x : ℕ) → get_or (map carry s) x nothing ≡ carry (get_or s x nothing)
    unfolding rewritten
    carry_at x = get_or-map carry s x nothing

    pub path_in_lem : (x : ℕ) → path_in (map carry s) x ≡ rewritten vis (path_in s x)
    unfolding path_in
    path_in_lem x = ap the_path (carry_at x) ∙ carry_path (get_or s x nothing)

    filter_in_lem : (x : ℕ) → filter_in (map carry s) x ≡ rewritten_filter vis (filter_in s x)
    unfolding filter_in
    filter_in_lem x = ap the_filter (carry_at x) ∙ carry_filter (get_or s x nothing)

-- What is written for an entry, behind a table in which the axes' rows stand.
module _ (own shown : Filter) {c : ℕ} (d base : ℕ) {table : Entries}
    (rows : Stood c (λ x. x + d) (rows_meant own shown) rows_heights table) where
  -- given that what its operands stand for is rewritten
  module _ (s : List Meant) (hs : List ℕ) (e : Entry)
      (stood : Stood (c + 18) (λ x. x + base) (map (carry (seen_by own shown)) s) hs table)
      (ordered : Ordered (map (carry (seen_by own shown)) s) e) where
    abbrev seen : Filter
    seen = seen_by own shown

    abbrev things : List Meant
    things = map (carry seen) s

    -- the entry written stands for x
    abbrev For : Meant → Type 0
    For x = EntryBehind table (view_entry d base e) x (c + 18 + height hs e)

    -- so it does for an entry of a row's kind
    abbrev Asked : Row → Type 0
    Asked row = row_of e.kind ≡ some row → e.kind ≡ row.number → For (carry seen (build s row.kind e))

    view_of : {n : ℕ} → e.kind ≡ n → view_entry d base e ≡ chosen d (raise base e) n
    unfolding view_entry
    view_of is = ap (chosen d (raise base e)) is

    -- an entry that is no step along an axis keeps its kind
    kept : {row : Row} → chosen d (raise base e) row.number ≡ raise base e
        → build things row.kind e ≡ carry seen (build s row.kind e) → Asked row
    kept own built listed is = rw (view_of is ∙ own, ← (mean_listed things e listed ∙ built)) (entry_behind stood ordered)

    -- a step along an axis becomes that axis's last row
    along : {row : Row} {p : Path} (last : Entry) → chosen d (raise base e) row.number ≡ raise d last
        → carry seen (build s row.kind e) ≡ a_path p → AxisRow own shown last p → Asked row
    along last same built axis listed is =
        rw (view_of is ∙ same, built) (behind_as (omega (arith, height_listed hs e ordered.listed)) (axis_behind d rows axis))

    by_row : Each Asked kinds
    unfolding chosen kinds build rewritten
    by_row =
        kept refl refl
        & along (axis_row 18) refl refl (axis_rows_lem own shown).down
        & along (axis_row 22) refl refl (axis_rows_lem own shown).up
        & along (axis_row 44) refl refl (axis_rows_lem own shown).forwards
        & along (axis_row 55) refl refl (axis_rows_lem own shown).backwards
        & kept refl (ap (λ (f : Filter). a_path (syntax.stay f)) (filter_in_lem seen s e.left))
        & kept refl (ap₂ (λ (p q : Path). a_path (syntax.then p q)) (path_in_lem seen s e.left) (path_in_lem seen s e.right))
        & kept refl (ap₂ (λ (p q : Path). a_path (syntax.either p q)) (path_in_lem seen s e.left) (path_in_lem seen s e.right))
        & kept refl (ap (λ (p : Path). a_path (syntax.star p)) (path_in_lem seen s e.left))
        & kept refl refl
        & kept refl (ap (λ (p : Path). a_filter (syntax.leads p)) (path_in_lem seen s e.left))
        & kept refl refl
        & kept refl refl
        & kept refl (ap (λ (f : Filter). a_filter (syntax.not f)) (filter_in_lem seen s e.left))
        & kept refl (ap₂ (λ (f g : Filter). a_filter (syntax.and f g)) (filter_in_lem seen s e.left) (filter_in_lem seen s e.right))
        & kept refl (ap₂ (λ (f g : Filter). a_filter (syntax.or f g)) (filter_in_lem seen s e.left) (filter_in_lem seen s e.right))
        & no_more

    -- of whatever kind it is
    pub view_behind : EntryBehind table (view_entry d base e) (carry seen (mean s e)) (c + 18 + height hs e)
    view_behind =
        let (stands, number) = row_found Asked by_row ordered.listed in
        rw (mean_listed s e ordered.listed) (stands ordered.listed (sym number))

-- What is read of a table with one entry more.
read_more : {A : Type 0} (read : List A → Entry → A) (table : Entries) (e : Entry)
    → read_on read [] (table ++ e ∷ []) ≡ read_on read [] table ++ read (read_on read [] table) e ∷ []
unfolding read_on
read_more read table e = read_append read [] table (e ∷ [])

-- an entry of the query is in order among the rewritten things before it
module _ (vis : Filter) (done : Entries) (e : Entry) (rest : Entries) where
  entry_here : entry_at (done ++ e ∷ rest) (length done) ≡ e
  unfolding entry_at
  entry_here = get_or_at done e rest _ (length done) refl

  sort_before : {x : ℕ} {sort : Sort} → x < length done → HasSort (done ++ e ∷ rest) x sort → HasSort done x sort
  unfolding row_at entry_at
  sort_before {x} l has =
      let same : entry_at done x ≡ entry_at (done ++ e ∷ rest) x = sym (get_or-append done (e ∷ rest) _ x l) in
      record { row = has.row; listed = ap (λ (o : Entry). row_of o.kind) same ∙ has.listed; sort = has.sort }

  many : length (map (carry vis) (meanings done)) ≡ length done
  unfolding meanings
  many = length-map (meanings done) (carry vis) ∙ omega (arith, read_length mean [] done)

  named : (o : Operand) (x : ℕ) → OperandField (done ++ e ∷ rest) (length done) o x → Named (map (carry vis) (meanings done)) o x
  unfolding OperandField Named
  named unused x h = h
  named (of sort) x (l, has) =
      let sorted = meant_sorted l (sort_before l has) in
      (omega (arith, many), ap sort_for (carry_at vis (meanings done) x) ∙ carry_sort vis (get_or (meanings done) x nothing) ∙ sorted)

  query_ordered : EntryRight (done ++ e ∷ rest) (length done) → Ordered (map (carry vis) (meanings done)) e
  unfolding row_at
  query_ordered right =
      let same : entry_at (done ++ e ∷ rest) (length done) ≡ e = entry_here in
      record {
        row = right.row;
        listed = ap (λ (o : Entry). row_of o.kind) (sym same) ∙ right.listed;
        label = rw same at right.label;
        left = named right.row.left e.left (rw same at right.left);
        right = named right.row.right e.right (rw same at right.right);
      }

-- EntryBehind a front in which the axes' rows stand, the entries of the query are written one after the other.
module _ (own shown : Filter) {c : ℕ} (d : ℕ) {front : Entries} (rows : Stood c (λ x. x + d) (rows_meant own shown) rows_heights front) where
  abbrev vis : Filter
  vis = seen_by own shown

  abbrev view : Entry → Entry
  view = view_entry d (length front)

  -- the table, where these entries are written
  abbrev so_far : Entries → Entries
  so_far done = front ++ map view done

  abbrev heights : Entries → List ℕ
  heights done = read_on height [] done

  -- each of them stands for the rewriting of what its entry stands for
  abbrev pub Drawn : Entries → Type 0
  Drawn done = Stood (c + 18) (λ x. x + length front) (map (carry vis) (meanings done)) (heights done) (so_far done)

  length_so_far : (done : Entries) → length (so_far done) ≡ length front + length done
  length_so_far done = omega (arith, length-append front (map view done), length-map done view)

  so_far_more : (done : Entries) (e : Entry) → so_far done ++ view e ∷ [] ≡ so_far (done ++ e ∷ [])
  so_far_more done e =
      append_assoc front (map view done) (view e ∷ []) ∙ ap (λ (l : Entries). front ++ l) (sym (map-append view done (e ∷ [])))

  module _ (done : Entries) (e : Entry) (rest : Entries) (right : EntryRight (done ++ e ∷ rest) (length done)) (drawn : Drawn done) where
    -- the next entry
    next_behind : EntryBehind (so_far done) (view e) (carry vis (mean (meanings done) e)) (c + 18 + height (heights done) e)
    next_behind =
        view_behind own shown d (length front) (stood_kept (map view done) rows) (meanings done) (heights done) e drawn
        (query_ordered vis done e rest right)

    drawn_more : Drawn (done ++ e ∷ [])
    unfolding meanings
    drawn_more =
        let s : List Meant = map (carry vis) (meanings done) in
        let x : Meant = carry vis (mean (meanings done) e) in
        let h : ℕ = height (heights done) e in
        let things : s ++ x ∷ [] ≡ map (carry vis) (meanings (done ++ e ∷ [])) =
        sym (ap (map (carry vis)) (read_more mean done e) ∙ map-append (carry vis) (meanings done) (mean (meanings done) e ∷ [])) in
        let size = length_so_far done in
        let count = many vis done e rest in
        let next : Next (λ x. x + length front) s (so_far done) = record { place = λ k j l. omega arith } in
        let all : Stood (c + 18) (λ x. x + length front) (s ++ x ∷ []) (heights done ++ h ∷ []) (so_far done ++ view e ∷ []) =
        stood_end x (view e) next h drawn next_behind in
        rw (things, ← read_more height done e, so_far_more done e) at all

    sound_more : {most : ℕ} → c + 18 + height (heights done) e ≤ most → Sound (so_far done) most → Sound (so_far (done ++ e ∷ [])) most
    sound_more l sound = rw (so_far_more done e) at (sound_end next_behind l sound)

  -- the rest of the query
  query_drawn : (done rest : Entries) → ((i : ℕ) → i < length (done ++ rest) → EntryRight (done ++ rest) i) → Drawn done
      → Drawn (done ++ rest)
  query_drawn done [] right drawn = rw (append-nil done) drawn
  query_drawn done (e ∷ rest) right drawn =
      let here : EntryRight (done ++ e ∷ rest) (length done) = right (length done) (omega (arith, length-append done (e ∷ rest))) in
      let same : (done ++ e ∷ []) ++ rest ≡ done ++ e ∷ rest = append_assoc done (e ∷ []) rest in
      rw same at (query_drawn (done ++ e ∷ []) rest (rw (← same) at right) (drawn_more done e rest here drawn))

  -- and the table stays sound, where no entry of the query is too high
  query_sound : {most : ℕ} (done rest : Entries) → ((i : ℕ) → i < length (done ++ rest) → EntryRight (done ++ rest) i)
      → ((i : ℕ) → i < length (done ++ rest) → c + 18 + height_at (done ++ rest) i ≤ most) → Drawn done → Sound (so_far done) most
      → Sound (so_far (done ++ rest)) most
  unfolding height_at
  query_sound done [] right low drawn sound = rw (append-nil done) sound
  query_sound {most} done (e ∷ rest) right low drawn sound =
      let inside : length done < length (done ++ e ∷ rest) = omega (arith, length-append done (e ∷ rest)) in
      let here : EntryRight (done ++ e ∷ rest) (length done) = right (length done) inside in
      let same : (done ++ e ∷ []) ++ rest ≡ done ++ e ∷ rest = append_assoc done (e ∷ []) rest in
      let one : height_at (done ++ e ∷ rest) (length done) ≡ height (heights done) e =
      ap (λ (l : Entries). get_or (read_on height [] l) (length done) 0) (sym same)
      ∙ read_prefix height (done ++ e ∷ []) rest (length done) 0 (omega (arith, length-append done (e ∷ [])))
      ∙ at_end height done e 0 in
      let fits : c + 18 + height (heights done) e ≤ most = omega (arith, one, low (length done) inside) in
      rw same
      at (query_sound (done ++ e ∷ []) rest (rw (← same) at right) (rw (← same) at low) (drawn_more done e rest here drawn)
      (sound_more done e rest here drawn fits sound))

  -- before the first entry
  none_drawn : Drawn []
  unfolding meanings read_on
  none_drawn = record { size = refl; each = λ k l. absurd (omega arith) }

  -- The whole query.
  module _ {query : Entries} (right : (i : ℕ) → i < length query → EntryRight query i) where
    pub drawn_whole : Drawn query
    drawn_whole = query_drawn [] query right none_drawn

    pub sound_whole : {most : ℕ} → ((i : ℕ) → i < length query → c + 18 + height_at query i ≤ most) → Sound front most
        → Sound (front ++ map view query) most
    sound_whole low sound = query_sound [] query right low none_drawn (rw (append-nil front) sound)
