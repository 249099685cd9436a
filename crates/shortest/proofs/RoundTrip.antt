-- Printing and reading: what the reader wrote is printed and read as the same bytes, and what is printed of any table is read as a table of
-- the same path, unless that has too many entries. Assumes nothing.
use Prim.Native.Nat.{ℕ, ◌*◌, ◌≤◌, ◌<◌}
use native.Mathlib.Decide.{dec_le}
use native.Mathlib.Omega.{arith}
use mathlib.Core.Path.{◌≡◌, refl, sym, ap, ◌∙◌}
use mathlib.Core.List.{◌++◌}
use lib.ListN.{length, take, drop}
use lib.Seq.{take_at}
use Rattle.reply.specs.Reply.{Said, count}
use Rattle.reply.specs.Bytes.{Bytes, Written}
use Rattle.reply.specs.Outcome.{done, short, turned_away}
use Rattle.query.specs.Syntax.{Path}
use Rattle.query.specs.Table.{entries, entry_bytes, query_of}
use Rattle.query.specs.Fault.{curators, Query}
use Rattle.query.proofs.Bytes.{bytes_length}
use Rattle.text.specs.Written.{table_of}
use Rattle.text.specs.Promise.{TextLength, two_stars, Faultless, TextFault, too_large, TextOf, TextRead}
use Rattle.text.specs.Print.{PlainText, Printable, TextGiven, TablePrinted, ReadAgain, same_query, too_many, RoundTrip}
use Rattle.derivation.proofs.Back.{table_back, query_back}
use Rattle.derivation.proofs.Accepted.{text_query}
use Rattle.derivation.proofs.Mistakes.{whole_faultless}
use Rattle.derivation.proofs.Unique.{text_read_one}
use Rattle.shortest.proofs.Shown.{path_shown}
use Rattle.shortest.proofs.Texts.{shown_fewest, fewest_shown}
use Rattle.shortest.proofs.Length.{fewest_shortest, text_some}
use Rattle.shortest.proofs.Heights.{table_low}
use Rattle.shortest.proofs.Queries.{Limited, query_limited}
use Rattle.shortest.proofs.Shallow.{shown_shallow}
use Rattle.shortest.proofs.Unique.{print_wrong}

-- A path within the limits whose text is short enough:
module _ (p : Path) (limited : Limited curators p) (most : length (path_shown p) ≤ 1024) where
  shown_plain : PlainText p (path_shown p)
  shown_plain = (shown_fewest p limited.labels).of

  shown_length : TextLength (path_shown p)
  shown_length = record { some = text_some shown_plain.text_of; most = most }

  -- nothing is wrong with it at any place,
  shown_faultless : Faultless (path_shown p)
  shown_faultless =
      whole_faultless shown_plain.text_of (shown_shallow p limited.labels limited.low) (λ k l. shown_plain.plain k)

  -- the text is accepted if the table has few entries,
  shown_text : length (table_of p) ≤ 256 → TextOf p (path_shown p)
  shown_text few =
      record {
        length = shown_length;
        path = shown_plain.text_of;
        faultless = shown_faultless;
        fits = record { few = few; low = λ i l. omega (arith, table_low p i l, limited.low) };
      }

  -- and refused with 16 if it has more
  shown_fault : 256 < length (table_of p) → TextFault (path_shown p) 16 0
  shown_fault many =
      too_large shown_length shown_plain.text_of shown_faultless (λ fits. omega (arith, fits.few))

-- no star stands right behind a star in a text that is accepted
text_plain : {p : Path} {text : Bytes} → TextOf p text → PlainText p text
unfolding Faultless
text_plain t = record { text_of = t.path; plain = λ k s. t.faultless 19 k (two_stars s) }

-- A text that is accepted:
module _ {p : Path} {text : Bytes} (t : TextOf p text) where
  -- its table's bytes stand for its path,
  path_back : query_of (entries (entry_bytes (table_of p))) ≡ p
  path_back = ap query_of (table_back p (omega (arith, t.fits.few))) ∙ query_back p

  -- and are what the reader writes in any room that is large enough
  reads : (room after : Bytes) (said : Said) → TextRead text room said after → 1536 ≤ length room
      → (said ≡ count (length (table_of p))) × (take (6 * length (table_of p)) after ≡ entry_bytes (table_of p))
  unfolding TextRead
  reads room after said r large =
      let front : Bytes = entry_bytes (table_of p) in
      let size : length front ≡ 6 * length (table_of p) = bytes_length (table_of p) in
      let written : Written room front (front ++ drop (length front) room) =
      record { room = omega (arith, t.fits.few); bytes = refl } in
      let (says, leaves) =
      text_read_one text room r (done large (p, t) (record { path = p; text_of = t; count = refl; written = written })) in
      (says, ap (take (6 * length (table_of p))) leaves ∙ take_at front (drop (length front) room) (6 * length (table_of p)) size)

-- What the reader wrote is the table of an accepted text's path.
record Wrote (text : Bytes) (n : ℕ) (table : Bytes) : Type 0 where
  path : Path
  text_of : TextOf path text
  count : n ≡ length (table_of path)
  bytes : take (6 * n) table ≡ entry_bytes (table_of path)

wrote : (text room table : Bytes) (n : ℕ) → TextRead text room (count n) table → Wrote text n table
unfolding TextRead
wrote text room table n r = elim r [ done large right given ↦ of large right ]
  where
    of : 1536 ≤ length room → (p : Path) × TextOf p text → Wrote text n table
    of large (p, t) =
        let (says, bytes) = reads t room table (count n) r large in
        let number : n ≡ length (table_of p) = cc in
        record { path = p; text_of = t; count = number; bytes = rw number bytes }

-- What was printed is shown for a path within the limits.
record Printed (p : Path) (c : ℕ) (text : Bytes) : Type 0 where
  limited : Limited curators p
  most : length (path_shown p) ≤ 1024
  front : take c text ≡ path_shown p

printed : (table room text : Bytes) (c : ℕ) → TablePrinted table room (count c) text → Printed (query_of (entries table)) c text
unfolding TablePrinted
printed table room text c x = elim x [ done large right given ↦ of right given ]
  where
    of : Printable table → TextGiven table room c text → Printed (query_of (entries table)) c text
    of right given =
        let front : take c text ≡ given.text = ap (take c) given.written.bytes ∙ take_at given.text _ c (sym given.count) in
        record {
          limited = query_limited right.query;
          most = rw (fewest_shown right.printed) at right.most;
          front = front ∙ fewest_shown given.printed;
        }

module _ {p : Path} {c : ℕ} {text : Bytes} (x : Printed p c text) where
  -- with few entries to the path it is accepted,
  few_accepted : length (table_of p) ≤ 256 → TextOf p (take c text)
  few_accepted few = rw x.front (shown_text p x.limited x.most few)

  -- and with more it is refused
  many_refused : 256 < length (table_of p) → TextFault (take c text) 16 0
  many_refused many = rw x.front (shown_fault p x.limited x.most many)

-- so what is printed of a table is read as one of the same path, or refused
read_again : (table room text room' table' : Bytes) (c : ℕ) (said : Said) → TablePrinted table room (count c) text
    → TextRead (take c text) room' said table' → 1536 ≤ length room' → ReadAgain table said table'
unfolding TextRead
read_again table room text room' table' c said x r large = go (dec_le (length (table_of (query_of (entries table)))) 256)
  where
    front : Printed (query_of (entries table)) c text
    front = printed table room text c x

    go : Dec (length (table_of (query_of (entries table))) ≤ 256) → ReadAgain table said table'
    go (yes few) =
        let t = few_accepted front few in
        let (says, bytes) = reads t room' table' said r large in
        let query : Query curators (take (6 * length (table_of (query_of (entries table)))) table') = rw bytes (text_query t) in
        rw says (same_query few query (ap (λ (b : Bytes). query_of (entries b)) bytes ∙ path_back t))
    go (no many) =
        let (says, leaves) = text_read_one (take c text) room' r (turned_away large (many_refused front (omega arith))) in
        rw says (too_many (omega arith))

-- A table of n entries that the reader wrote:
module _ {text table : Bytes} {n : ℕ} (w : Wrote text n table) where
  -- it stands for the path of the text,
  wrote_path : query_of (entries (take (6 * n) table)) ≡ w.path
  wrote_path = ap (λ (b : Bytes). query_of (entries b)) w.bytes ∙ path_back w.text_of

  -- whose shortest text is no longer than the one that was read
  wrote_printable : Printable (take (6 * n) table)
  wrote_printable =
      let q : Query curators (take (6 * n) table) = rw w.bytes (text_query w.text_of) in
      let p : Path = query_of (entries (take (6 * n) table)) in
      let fewest = shown_fewest p (query_limited q).labels in
      let shorter = fewest_shortest fewest text (rw wrote_path (text_plain w.text_of)) in
      record { query = q; text = path_shown p; printed = fewest; most = omega (arith, w.text_of.length.most) }

  module _ (room' text' : Bytes) where
    -- so it is printed,
    is_printed : (said : Said) → TablePrinted (take (6 * n) table) room' said text' → 1024 ≤ length room' → (c : ℕ) × (said ≡ count c)
    unfolding TablePrinted
    is_printed said x large =
        elim x as (λ k _ _. (c : ℕ) × (k ≡ count c)) [
          | done {c = c} l right given ↦ (c, refl)
          | short l ↦ absurd (omega arith)
          | turned_away {n = m} {p = i} l f ↦ absurd (print_wrong (take (6 * n) table) m i f wrote_printable)
        ]

    -- and what is printed is read as the same bytes
    same_again : (room'' table'' : Bytes) (c : ℕ) (said : Said) → TablePrinted (take (6 * n) table) room' (count c) text'
        → TextRead (take c text') room'' said table'' → 1536 ≤ length room'' → (said ≡ count n) × (take (6 * n) table'' ≡ take (6 * n) table)
    same_again room'' table'' c said x y large =
        let few : length (table_of (query_of (entries (take (6 * n) table)))) ≤ 256 = rw wrote_path w.text_of.fits.few in
        let t : TextOf w.path (take c text') = rw wrote_path at (few_accepted (printed (take (6 * n) table) room' text' c x) few) in
        let (says, bytes) = reads t room'' table'' said y large in
        (says ∙ ap count (sym w.count), ap (λ (m : ℕ). take (6 * m) table'') w.count ∙ bytes ∙ sym w.bytes)

-- All three hold.
pub round_trip : RoundTrip
round_trip =
    record {
      printed = λ text room table room' text' n said r. is_printed (wrote text room table n r) room' text' said;
      same_bytes = λ text room table room' text' room'' table'' n c said r.
          same_again (wrote text room table n r) room' text' room'' table'' c said;
      same_answers = read_again;
    }
