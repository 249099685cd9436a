-- The entries of the records from the last on: one record more. Assumes nothing.
use Prim.Native.Nat.{ℕ, suc, ◌+◌, ◌-◌, ◌*◌, ◌≤◌, ◌<◌}
use native.Mathlib.Nat.{le_refl}
use native.Mathlib.Omega.{arith}
use mathlib.Core.Path.{◌≡◌, refl, ap, ◌∙◌}
use mathlib.Core.List.{List, ◌∷◌, map}
use lib.ListN.{length, drop, length-append, length-drop, length-map}
use lib.Seq.{drop-cons, drop-length}
use Rattle.reply.specs.Bytes.{Bytes}
use Rattle.query.specs.Table.{Entry, Entries}
use Rattle.checks.specs.declared.annotation.Record.{Record}
use Rattle.checks.specs.Fields.{Fields}
use Rattle.view.specs.Annotation.{AnnotationRecord, record_at}
use Rattle.written.specs.Written.{raise, opening, nine_entries, record_entries, records_entries, axis_rows, prelude, prelude_size, view_entry, written}
use Rattle.written.proofs.Table.{records_many, prelude_size_lem}
use Rattle.tables.specs.Laid.{laid}
use Rattle.writer.specs.declared.part.Part.{Part}
use Rattle.writer.specs.Laid.{Lays}
use Rattle.writer.proofs.Laying.{laid_more, lays_none, lays_then}

-- The records from i on are written behind the opening.
pub record Recorded (start : Part) (first : ℕ) (rs : List AnnotationRecord) (now : Part) (i : ℕ) : Type 0 where
  pub inside : i ≤ length rs
  pub place : now.at ≡ 3 + 9 * (length rs - i)
  pub lays : Lays start (records_entries first (drop i rs)) now

module _ {start : Part} {first : ℕ} {rs : List AnnotationRecord} (opened : start.at ≡ 3) where
  -- at first there are none
  pub none_recorded : {n : ℕ} → n ≡ length rs → Recorded start first rs start n
  unfolding records_entries
  none_recorded e = rw e (record { inside = le_refl _; place = omega arith; lays = rw (drop-length rs) (lays_none start) })

  -- then one more
  pub one_recorded : {now next : Part} {i : ℕ} {own : Record} → 0 < i → Fields (record_at rs (i - 1)) own → Recorded start first rs now i
      → Lays now (nine_entries first (first + now.at) own.parent own.child own.filter) next
      → Recorded start first rs next (i - 1)
  unfolding records_entries record_at
  one_recorded {now} {next = next} {i = i} {own = own} some fields before after =
      let r : AnnotationRecord = record_at rs (i - 1) in
      let more : List AnnotationRecord = drop i rs in
      let inside = before.inside in
      let place = before.place in
      let here : suc (i - 1) ≡ i = omega arith in
      let left : drop (i - 1) rs ≡ r ∷ more = drop-cons rs (i - 1) _ (omega arith) ∙ ap (λ (k : ℕ). r ∷ drop k rs) here in
      let size : length more ≡ length rs - i = length-drop i rs in
      let number : first + now.at ≡ first + 3 + 9 * length more = omega arith in
      let same : record_entries first (first + now.at)
      (record { parent = own.parent; child = own.child; filter = own.filter; rest = 0 }) ≡ record_entries first
      (first + 3 + 9 * length more) r =
      rw (number, fields.parent, fields.child, fields.filter) refl in
      record {
        inside = omega arith;
        place = omega (arith, after.end);
        lays = rw (left, ← same) (lays_then before.lays after);
      }

-- the opening, the records and the rows, one behind the other
pub prelude_laid : {start opened recorded now : Part} {after : Bytes} (first : ℕ) (rs : List AnnotationRecord) → start.at ≡ 0
    → Lays start opening opened → Lays opened (records_entries first rs) recorded
    → Lays recorded (map (raise (first + recorded.at - 2)) axis_rows) now → after ≡ now.out.now
    → (now.at ≡ prelude_size (length rs)) × (after ≡ laid start.out.now 0 (prelude first rs))
unfolding prelude
prelude_laid {start} {opened} {recorded} {now} first rs empty first_three behind rows same =
    let many = records_many first rs in
    let far : first + recorded.at - 2 ≡ first + 1 + 9 * length rs = omega (arith, first_three.end, behind.end) in
    let all : Lays start (prelude first rs) now = lays_then first_three (lays_then behind (rw far at rows)) in
    (omega (arith, all.end, prelude_size_lem first rs), same ∙ rw empty at all.bytes)

-- and the query's entries behind them
pub behind_laid : (start : Bytes) (first : ℕ) (rs : List AnnotationRecord) (query : Entries) {before now : Bytes} {at : ℕ}
    → at ≡ prelude_size (length rs)
    → before ≡ laid start 0 (prelude first rs) → now ≡ laid before at (map (view_entry (first + at - 58) (first + at)) query)
    → now ≡ laid start 0 (written first rs query)
unfolding written
behind_laid start first rs query {at = at} count front own =
    let size = prelude_size_lem first rs in
    let axes : first + at - 58 ≡ first + 1 + 9 * length rs = omega arith in
    laid_more start 0 (prelude first rs) _ front (omega arith) (rw (axes, count) at own)

-- the prelude, and an entry for each of the query's
pub written_size : (first : ℕ) (records : List AnnotationRecord) (query : Entries)
    → length (written first records query) ≡ prelude_size (length records) + length query
unfolding written
written_size first records query =
    let view : Entry → Entry = view_entry (first + 1 + 9 * length records) (first + prelude_size (length records)) in
    omega (arith, length-append (prelude first records) (map view query), length-map query view, prelude_size_lem first records)
