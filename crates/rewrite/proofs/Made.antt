-- What is in the room once the filter table is copied and the rest is written behind it: a table that call 3 accepts, and that does on
-- every roll what the query does on the view. Assumes nothing.
use Prim.Native.Nat.{ℕ, ◌+◌, ◌-◌, ◌*◌, ◌≤◌, ◌<◌}
use native.Mathlib.Nat.{zero-add}
use native.Mathlib.Omega.{arith}
use mathlib.Core.Path.{◌≡◌, sym, ap, ◌∙◌, subst}
use mathlib.Core.Logic.Iff
use mathlib.Core.List.{List, [], ◌++◌, append_assoc, append-nil}
use lib.Dec.{lit≤}
use lib.ListN.{length, take, drop, length-append, length-drop, drop_of_length-le}
use lib.Seq.{sets-eq, take_all, take-length, take_at, drop_at, drop-drop}
use Rattle.reply.specs.Bytes.{Bytes, Written}
use Rattle.roll.specs.Roll.{nodes}
use Rattle.roll.proofs.Deciding.{roll_in_order}
use Rattle.query.specs.Kind.{path}
use Rattle.query.specs.Table.{Entries, entries, entry_bytes, HasSort, EntryRight, height_at, query_of}
use Rattle.query.specs.Fault.{curators, answered, last, Query}
use Rattle.query.proofs.Bytes.{bytes_length}
use Rattle.query.proofs.Tables.{entries_length}
use Rattle.view.specs.Annotation.{AnnotationRecord, records, record_at, RecordForm, rules}
use Rattle.view.specs.Promise.{Seen, Annotated}
use Rattle.checks.proofs.Records.{records_length}
use Rattle.written.specs.Written.{prelude_size, written}
use Rattle.written.proofs.Stands.{Sound}
use Rattle.written.proofs.Table.{table_size, table_sound, table_stands, visible_stands}
use Rattle.written.proofs.Back.{table_back}
use Rattle.tables.specs.Laid.{laid}
use Rattle.tables.specs.Promise.{EntriesRight}
use Rattle.writer.specs.Laid.{Room, LabelBytes, Numbers}
use Rattle.writer.proofs.Recording.{written_size}
use Rattle.theorem.proofs.VisibleExactly.{visible_right}
use Rattle.rewrite.specs.Promise.{Faithful, Rewritten}
use Rattle.rewrite.specs.Visible.{visible_entry, VisibleTold}
use Rattle.rewrite.proofs.Given.{table_front}
use Rattle.rewrite.proofs.Faithful.{visible_on, rewritten_faithful}

-- the part of some bytes from a place on, as it is lent
abbrev lent : Bytes → ℕ → Bytes
lent b from = take (length b - from) (drop from b)

-- the bytes, with something else in the place of that part
abbrev restored : Bytes → ℕ → Bytes → Bytes
restored b from part = take from b ++ (part ++ drop (length b - from) (drop from b))

-- The filter table is copied to the front of the room, and entries are laid from its end on.
module _ (before filters copied : Bytes) (size : ℕ) (is : size ≡ length filters) (room : length filters ≤ length before)
    (copy : copied ≡ take (length filters) filters ++ drop (length filters) before) where
  -- what is copied is the filter table, with the room behind it
  front_copied : copied ≡ filters ++ drop size before
  front_copied = rw is (rw take-length at copy)

  copied_length : length copied ≡ length before
  copied_length = ap length front_copied ∙ length-append filters (drop size before) ∙ omega (arith, length-drop size before)

  behind_copied : drop size copied ≡ drop size before
  behind_copied = ap (drop size) front_copied ∙ drop_at filters (drop size before) size (sym is)

  -- the part that is lent is the room behind the filter table
  part_lent : lent copied size ≡ drop size before
  part_lent = rw behind_copied (take_all (length copied - size) (drop size before) (omega (arith, length-drop size before, copied_length)))

  part_length : length (lent copied size) ≡ length before - length filters
  part_length = rw part_lent (omega (arith, length-drop size before))

  -- it comes back with entries laid in it
  part_written : (es : Entries) {part : Bytes} → length filters + 6 * length es ≤ length before → part ≡ laid (lent copied size) 0 es
      → Written before (filters ++ entry_bytes es) (restored copied size part)
  part_written es {part} fits after =
      let many = bytes_length es in
      let rest : length (drop size before) ≡ length before - size = length-drop size before in
      let inside : 0 + length (entry_bytes es) ≤ length (drop size before) = omega arith in
      let laid_there : part ≡ entry_bytes es ++ drop (length (entry_bytes es)) (drop size before) =
      rw zero-add at (after ∙ ap (λ (b : Bytes). laid b 0 es) part_lent ∙ sets-eq (entry_bytes es) (drop size before) 0 inside) in
      let short : length (drop size before) ≤ length copied - size = omega (arith, copied_length) in
      let none : drop (length copied - size) (drop size copied) ≡ [] = rw behind_copied (drop_of_length-le (drop size before) short) in
      let head : take size copied ≡ filters = ap (take size) front_copied ∙ take_at filters (drop size before) size (sym is) in
      let both = length-append filters (entry_bytes es) in
      let behind : drop (length (entry_bytes es)) (drop size before) ≡ drop (length (filters ++ entry_bytes es)) before =
      drop-drop (length (entry_bytes es)) size before
      ∙ ap (λ (n : ℕ). drop n before) (ap (λ (n : ℕ). n + length (entry_bytes es)) is ∙ sym both) in
      record {
        room = omega arith;
        bytes =
            rw (head, none, append-nil, laid_there, behind)
            (sym (append_assoc filters (entry_bytes es) (drop (length (filters ++ entry_bytes es)) before)));
      }

module _ {annotation filters query : Bytes} (annotated : Annotated annotation filters) (asked : Query curators query) where
  -- the entries and the records
  abbrev front : Entries
  front = entries filters

  abbrev rs : List AnnotationRecord
  rs = records annotation

  abbrev own : Entries
  own = entries query

  abbrev behind : Entries
  behind = written (length front) rs own

  -- how many there are
  few_filters : length front ≤ 256
  few_filters = omega (arith, entries_length filters, annotated.table.size.most)

  few_records : length rs ≤ 32
  few_records = omega (arith, records_length annotation, entries_length annotation, annotated.records.size.most)

  few_own : (1 ≤ length own) × (length own ≤ 256)
  few_own =
      let many = entries_length query in
      let size = asked.size.size in
      (omega (arith, asked.size.some, size.multiple), omega (arith, size.most))

  -- what is known of each
  sound : Sound front 16
  sound = record { right = λ i l. (annotated.table.entry i l).right; low = λ i l. (annotated.table.entry i l).low }

  forms : (i : ℕ) → i < length rs → RecordForm front (record_at rs i)
  forms i l = (annotated.records.each i l).form

  own_right : (i : ℕ) → i < length own → EntryRight own i
  own_right i l = (asked.entry i l).right

  own_low : (i : ℕ) → i < length own → height_at own i ≤ 32
  own_low i l = (asked.entry i l).low

  -- how many entries are written, and that they fit in the room behind the filter table
  count : length behind ≡ prelude_size (length rs) + length own
  count = written_size (length front) rs own

  -- 256 of the filter table, 256 of the query, 9 for each of 32 records, and 59
  few : length (front ++ behind) ≤ 859
  few = let f = few_filters in let r = few_records in let q = few_own in omega (arith, table_size sound rs forms own_right)

  -- the heights 32 and 16, one for each record, and 24
  table_sound_here : Sound (front ++ behind) (32 + 16 + length rs + 24)
  table_sound_here = table_sound sound rs forms own_right (lit≤ tt) own_low

  -- the bytes are read back as the table
  back : entries (filters ++ entry_bytes behind) ≡ front ++ behind
  back = table_back filters behind annotated.table.size.multiple table_sound_here (let f = few in omega arith)

  -- call 3's check accepts them
  accepted : Query answered (filters ++ entry_bytes behind)
  unfolding last
  accepted =
      let size = bytes_length behind in
      let whole = length-append filters (entry_bytes behind) in
      let multiple = annotated.table.size.multiple in
      let total = length-append front behind in
      let f = few in
      let e = entries_length filters in
      let r = few_records in
      let stands = table_stands sound rs forms own_right few_own.0 asked.path in
      record {
        size = record { some = omega (arith, count); size = record { multiple = omega arith; most = omega arith } };
        entry = λ i l.
            let within : i < length (front ++ behind) = subst (λ (es : Entries). i < length es) back l in
            record {
              right = subst (λ (es : Entries). EntryRight es i) (sym back) (table_sound_here.right i within);
              low = subst (λ (es : Entries). height_at es i ≤ 128) (sym back) (omega (arith, table_sound_here.low i within));
            };
        path = subst (λ (es : Entries). HasSort es (length es - 1) path) (sym back) stands.0;
      }

  -- the table does on every roll what the query does on the view
  faithful : Faithful annotation filters (query_of (entries (filters ++ entry_bytes behind))) (query_of own)
  unfolding last visible_on rules
  faithful =
      let stands = table_stands sound rs forms own_right few_own.0 asked.path in
      rw (back, stands.1) (rewritten_faithful annotation filters (query_of own))

  -- one of its entries tells who is visible
  visible_told : VisibleTold annotation filters (filters ++ entry_bytes behind)
  unfolding Seen rules
  visible_told = record {
    exact = λ roll r k l.
        let place : visible_entry annotation filters ≡ 12 + (length front + 1 + 9 * length rs) = omega arith in
        rw (back, place, visible_stands sound rs forms own_right)
        (Iff.symm (visible_right (nodes roll) (roll_in_order r) (rules front annotation) k l));
  }

  -- "1,024 entries": they fit in a room of 6,144 bytes
  fits_room : {n : ℕ} → 6144 ≤ n → length filters + 6 * length behind ≤ n
  fits_room room = let f = few in omega (arith, entries_length filters, annotated.table.size.multiple, length-append front behind)

  pub copy_fits : {n : ℕ} → 6144 ≤ n → length filters ≤ n
  copy_fits room = omega (arith, annotated.table.size.most)

  -- the count is that of the table
  pub short_count : {first more : ℕ} → first ≡ length front → more ≡ length (written first rs own) → first + more ≤ 859
  short_count e many = let f = few in omega (arith, length-append front behind, (rw e at many))

  -- The room, with the filter table in front.
  module _ (before copied : Bytes) (size : ℕ) (room : 6144 ≤ length before) (is : size ≡ length filters)
      (copy : copied ≡ take (length filters) filters ++ drop (length filters) before) where
    -- what the writer is given
    pub writer_given : {first : ℕ} → first ≡ length front
        → let many : ℕ = prelude_size (length rs) + length own in
        Room (lent copied size) 0 many × (LabelBytes annotation × (EntriesRight query × Numbers first many))
    writer_given e =
        let fits = fits_room room in
        let f = few in
        let total = length-append front behind in (
          record { fits = omega (arith, count, part_length before filters copied size is (copy_fits room) copy) },
          (label_bytes, (own_right, record { short = omega (arith, count) })),
        )
      where
        label_bytes : LabelBytes annotation
        label_bytes i l = let f = forms i l in record { kind = omega (arith, f.parent.most); label = omega (arith, f.child.most) }

    -- what it makes
    pub made : {first more : ℕ} {after : Bytes} → first ≡ length front → more ≡ length (written first rs own)
        → after ≡ laid (lent copied size) 0 (written first rs own)
        → Rewritten annotation filters query before (first + more) (restored copied size after)
    made {after = after} e many laid_there =
        record {
          behind = entry_bytes behind;
          written = part_written before filters copied size is (copy_fits room) copy behind (fits_room room) (rw e at laid_there);
          count = rw back (omega (arith, length-append front behind, (rw e at many)));
          accepted = accepted;
          faithful = faithful;
        }

    -- the entries counted tell it too
    pub made_told : {first more : ℕ} {after : Bytes} → first ≡ length front → more ≡ length (written first rs own)
        → after ≡ laid (lent copied size) 0 (written first rs own)
        → VisibleTold annotation filters (take (6 * (first + more)) (restored copied size after))
    unfolding made
    made_told e many laid_there = rw (table_front _ _ _ _ _ _ (made e many laid_there)) visible_told
