-- The table written for an annotation and a query: it stands for the rewriting of the query by the filter for visible, every entry of it is
-- in order, and how many entries it has and how high they are is bounded by sums. Assumes nothing.
use Prim.Native.Nat.{ℕ, suc, ◌+◌, ◌-◌, ◌*◌, ◌≤◌, ◌<◌}
use native.Mathlib.Nat.{le_refl}
use native.Mathlib.Omega.{arith}
use mathlib.Core.Path.{◌≡◌, refl, sym, ap, ◌∙◌}
use mathlib.Core.List.{List, [], ◌∷◌, ◌++◌, map, append_assoc, append-nil}
use lib.ListN.{length, get_or, length-append, length-map}
use Rattle.query.specs.Syntax.{Filter}
use Rattle.query.specs.Kind.{path}
use Rattle.query.specs.Table.{Entry, Entries, HasSort, EntryRight, height, height_at, read_on, the_path, the_filter, path_in, filter_in, mean, meanings, path_at, filter_at, query_of}
use Rattle.query.proofs.Tables.{read_length}
use Rattle.view.specs.Annotation.{AnnotationRecord, record_at, RecordForm, Rule}
use Rattle.theorem.proofs.Rewriting.{rewritten}
use Rattle.theorem.proofs.VisibleFilter.{some_of, pair_of, showing, climbing, visible_by}
use Rattle.written.specs.Written.{raise, opening, record_entries, records_entries, axis_rows, prelude, prelude_size, view_entry, written}
use Rattle.written.proofs.Stands.{nothing, sort_for, stands_as, stands_kept, Sound, Stood, meant_sorted}
use Rattle.written.proofs.Axes.{seen_by, rows_meant, rows_heights, visible_row, rows_many, rows_stood, rows_sound}
use Rattle.written.proofs.Records.{rule_of, Stage, stage_begins, stage_more}
use Rattle.written.proofs.Queries.{carry, carry_sort, carry_at, path_in_lem, drawn_whole, sound_whole}

-- nine entries for each record
pub records_many : (first : ℕ) (records : List AnnotationRecord) → length (records_entries first records) ≡ 9 * length records
unfolding records_entries
records_many first [] = refl
records_many first (r ∷ more) =
    omega (arith, length-append (records_entries first more) (record_entries first (first + 3 + 9 * length more) r), records_many first more)

pub prelude_size_lem : (first : ℕ) (records : List AnnotationRecord) → length (prelude first records) ≡ prelude_size (length records)
unfolding prelude axis_rows
prelude_size_lem first records =
    let rows : Entries = map (raise (first + 1 + 9 * length records)) axis_rows in
    omega (arith, length-append (records_entries first records) rows, records_many first records)

-- The records' entries, behind the filter table and the opening.
module _ {filters : Entries} {h : ℕ} (sound : Sound filters h) where
  -- the table with the entries of these records
  Recorded : List AnnotationRecord → Type 0
  Recorded records =
      Stage filters h (length records) (map (rule_of filters) records) ((filters ++ opening) ++ records_entries (length filters) records)

  none_recorded : Recorded []
  unfolding Recorded records_entries
  none_recorded = rw (append-nil (filters ++ opening)) (stage_begins filters h sound)

  one_recorded : (r : AnnotationRecord) (more : List AnnotationRecord) → RecordForm filters r → Recorded more → Recorded (r ∷ more)
  unfolding Recorded records_entries
  one_recorded r more form stage =
      let first : ℕ = length filters in
      rw (append_assoc (filters ++ opening) (records_entries first more) (record_entries first (first + 3 + 9 * length more) r))
      at (stage_more filters h sound r form stage)

  all_recorded : (records : List AnnotationRecord) → ((i : ℕ) → i < length records → RecordForm filters (record_at records i))
      → Recorded records
  unfolding record_at
  all_recorded [] forms = none_recorded
  all_recorded (r ∷ more) forms = one_recorded r more (forms 0 (omega arith)) (all_recorded more (λ i l. forms (suc i) (omega arith)))

-- What stands before the query, and what is known of it.
module _ {filters : Entries} {h : ℕ} (sound : Sound filters h) (records : List AnnotationRecord)
    (forms : (i : ℕ) → i < length records → RecordForm filters (record_at records i)) where
  -- the rules of the records
  abbrev ruled : List Rule
  ruled = map (rule_of filters) records

  -- some record is the node's; some record shows it
  abbrev own : Filter
  own = some_of pair_of ruled

  abbrev shown : Filter
  shown = some_of showing ruled

  -- how far the axes' rows are raised, and how high what they are made of is
  abbrev distance : ℕ
  distance = length filters + 1 + 9 * length records

  abbrev most : ℕ
  most = length records + h + 6

  stage : Stage filters h (length records) ruled ((filters ++ opening) ++ records_entries (length filters) records)
  unfolding Recorded
  stage = all_recorded sound records forms

  whole_front : ((filters ++ opening) ++ records_entries (length filters) records) ++ map (raise distance) axis_rows
      ≡ filters ++ prelude (length filters) records
  unfolding prelude
  whole_front = simp append_assoc

  front_rows : Stood most (λ x. x + distance) (rows_meant own shown) rows_heights (filters ++ prelude (length filters) records)
  front_rows =
      let size = stage.size in
      let last = stands_as {j = 1 + distance} (omega arith) (le_refl _) stage.shows in
      rw whole_front at (rows_stood {c = most} {d = distance} (omega arith) stage.owns last)

  front_sound : {top : ℕ} → most + 19 ≤ top → Sound (filters ++ prelude (length filters) records) top
  front_sound {top} l =
      let size = stage.size in
      let last = stands_as {j = 1 + distance} (omega arith) (le_refl _) stage.shows in
      rw whole_front at (rows_sound {c = most} {d = distance} (omega arith) stage.owns last l (stage.sound top (omega arith)))

  front_size : length (filters ++ prelude (length filters) records) ≡ length filters + prelude_size (length records)
  front_size =
      length-append filters (prelude (length filters) records) ∙ ap (λ (n : ℕ). length filters + n) (prelude_size_lem (length filters) records)

  module _ {query : Entries} (right : (i : ℕ) → i < length query → EntryRight query i) where
    abbrev front : Entries
    front = filters ++ prelude (length filters) records

    abbrev table : Entries
    table = filters ++ written (length filters) records query

    -- the query's entries stand behind the front
    whole_table : front ++ map (view_entry distance (length front)) query ≡ table
    unfolding written
    whole_table =
        let own_entries : Entries = map (view_entry distance (length filters + prelude_size (length records))) query in
        rw front_size (append_assoc filters (prelude (length filters) records) own_entries)

    stood : Stood (most + 18) (λ x. x + length front) (map (carry (seen_by own shown)) (meanings query)) (read_on height [] query) table
    stood = rw whole_table at (drawn_whole own shown distance front_rows right)

    -- How many entries: those of the filter table, those of the query, nine for each record and a constant.
    pub table_size : length table ≡ length filters + length query + 9 * length records + 59
    table_size =
        let view : Entry → Entry = view_entry distance (length front) in
        omega (arith, sym (ap length whole_table), length-append front (map view query), length-map query view, front_size)

    -- How high they are: at most as the query, the filters and the number of records together, and a constant.
    pub table_sound : {high : ℕ} → 1 ≤ high → ((i : ℕ) → i < length query → height_at query i ≤ high)
        → Sound table (high + h + length records + 24)
    table_sound {high} some low =
        let top : ℕ = high + h + length records + 24 in
        let lows : (i : ℕ) → i < length query → most + 18 + height_at query i ≤ top = λ i l. omega (arith, low i l) in
        rw whole_table at (sound_whole own shown distance front_rows right lows (front_sound (omega arith)))

    -- an entry before the query's stands for the filter for visible
    pub visible_stands : filter_at table (12 + distance) ≡ visible_by ruled
    unfolding filter_at filter_in the_filter meanings visible_by climbing
    visible_stands =
        let more : Entries = map (view_entry distance (length front)) query in
        let here = stands_kept more (front_rows.each 12 (rows_many own shown)) in
        ap the_filter (rw whole_table at here.means ∙ visible_row own shown)

    -- the table stands for the rewriting of the query
    pub table_stands : 1 ≤ length query → HasSort query (length query - 1) path
        → HasSort table (length table - 1) path × (query_of table ≡ rewritten (visible_by ruled) (query_of query))
    unfolding query_of path_at path_in meanings visible_by climbing
    table_stands some last =
        let k : ℕ = length query - 1 in
        let vis : Filter = seen_by own shown in
        let count : length (map (carry vis) (meanings query)) ≡ length query =
        length-map (meanings query) (carry vis) ∙ omega (arith, read_length mean [] query) in
        let place : k + length front ≡ length table - 1 = omega (arith, table_size, front_size) in
        let end = stands_as place (le_refl _) (stood.each k (omega arith)) in
        let sort : sort_for (get_or (map (carry vis) (meanings query)) k nothing) ≡ path =
        ap sort_for (carry_at vis (meanings query) k) ∙ carry_sort vis (get_or (meanings query) k nothing) ∙ meant_sorted (omega arith) last in
        (rw sort at end.sort, ap the_path end.means ∙ path_in_lem vis (meanings query) k)
