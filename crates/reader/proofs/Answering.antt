-- How call 2 comes to its reply. Assumes nothing.
use Prim.Native.Nat.{ℕ, ◌*◌, ◌≤◌, ◌<◌, zero-le}
use native.Mathlib.Omega.{arith}
use mathlib.Core.Path.{◌≡◌, refl, sym, ap, ◌∙◌, subst₂}
use mathlib.Core.List.{◌++◌}
use lib.ListN.{length, take, drop}
use lib.Seq.{take-length}
use Rattle.std.specs.Prelude.{Some, Result, Ok, Err}
use Rattle.reply.specs.declared.Refusal.{Refusal}
use Rattle.reply.specs.Reply.{Said, count, refused, said}
use Rattle.reply.specs.Bytes.{Bytes}
use Rattle.reply.specs.Outcome.{done, short, turned_away}
use Rattle.reply.proofs.Checking.{right_counted, faulted}
use Rattle.query.specs.Syntax.{Path}
use Rattle.query.specs.Table.{entry_bytes}
use Rattle.query.specs.Fault.{curators, Query}
use Rattle.query.proofs.Unique.{query_wrong}
use Rattle.tables.specs.Promise.{QueryChecked}
use Rattle.text.specs.Grammar.{PathText}
use Rattle.text.specs.Written.{table_of}
use Rattle.text.specs.Promise.{TextLength, OneTooMany, Faultless, TextFault, mistaken, too_large, TextOf, TextRead}
use Rattle.derivation.proofs.Back.{table_back}
use Rattle.derivation.proofs.Mistakes.{PlainBelow, breaks_first, deep_first, star_first, whole_faultless}
use Rattle.derivation.proofs.Accepted.{fits_query, query_fits}
use Rattle.tokens.specs.declared.answer.Read.{Read}
use Rattle.tokens.specs.declared.answer.Stopped.TheVariants.{Broken, Deep}
use Rattle.tokens.specs.Reading.{Answer, place_of}
use Rattle.reader.specs.Reader.{Parses, parses, breaks_off, too_many_open, FirstSlip, WrittenOut}
use Rattle.reader.proofs.Parsing.{reached_clear}

-- The table is checked: by what the check replies, it is written out or refused.
module _ {table : Bytes} (before : Bytes) where
  -- there is room for it
  pub room_enough : {c : ℕ} {r : Result ℕ Refusal} → r ≡ Ok c → QueryChecked curators table (said r) → 1536 ≤ length before
      → length table ≤ length before
  room_enough e x room = omega (arith, (right_counted e x).0.size.size.most)

  -- it is written
  pub written_out : {c : ℕ} {r : Result ℕ Refusal} {after : Bytes} → r ≡ Ok c → QueryChecked curators table (said r) → 1536 ≤ length before
      → after ≡ take (length table) table ++ drop (length table) before → WrittenOut table before (count c) after
  written_out e x room copied =
      let (query, size) = right_counted e x in
      done zero-le query (
        size,
        record {
          room = room_enough e x room;
          bytes = copied ∙ ap (λ (b : Bytes). b ++ drop (length table) before) (take-length table);
        },
      )

  -- a check that refuses says that it is no query
  pub refused_out : {n p : ℕ} {s : Said} → QueryChecked curators table (refused n p) → s ≡ refused 16 0 → WrittenOut table before s before
  refused_out x e =
      let no_query : ¬ Query curators table = query_wrong curators table _ _ (faulted x) in
      rw e (turned_away zero-le (refl, refl, no_query))

-- What the readers say of a text that they read to its end.
module _ {text : Bytes} {r : Read} {table : Bytes} (x : Parses text (Ok r) table) where
  pub record Whole : Type 0 where
    pub path : Path
    pub text_of : PathText text path
    pub shallow : (k : ℕ) → ¬ OneTooMany text k
    pub end : r.at ≡ length text
    pub count : r.count ≡ length (table_of path)
    pub long : 6 * r.count ≤ length table
    pub few : r.count ≤ 2048
    pub front : take (6 * r.count) table ≡ entry_bytes (table_of path)

  -- and they say it
  pub whole : Whole
  whole = go x
    where
      go : Parses text (Ok r) table → Whole
      go (parses {p = path} y s e c l m f) =
          record { path = path; text_of = y; shallow = s; end = e; count = c; long = l; few = m; front = f }

module _ (text before : Bytes) where
  -- too little room
  pub short_room : {s : Said} → length before < 1536 → s ≡ refused 1 0 → TextRead text before s before
  unfolding TextRead
  short_room l e = rw e (short l)

  module _ (room : 1536 ≤ length before) where
    -- a fault of the text
    pub fault_told : {n p : ℕ} {s : Said} → TextFault text n p → s ≡ refused n p → TextRead text before s before
    unfolding TextRead
    fault_told f e = rw e (turned_away room f)

    module _ (right : TextLength text) where
      -- a star right behind a star, before the place where reading comes to
      pub slip_told : {p : Answer} {i : ℕ} {after : Bytes} {s : Said} → Parses text p after → FirstSlip text (place_of p) (Some i)
          → s ≡ refused 19 i → TextRead text before s before
      slip_told x (l, is, none) = fault_told (mistaken right (star_first (reached_clear x).0 l is none))

      -- a byte that the grammar does not take
      pub broken_told : {i : ℕ} {after : Bytes} {s : Said} → Parses text (Err (Broken i)) after → PlainBelow text i
          → s ≡ refused 14 i → TextRead text before s before
      broken_told (breaks_off w b) plain = fault_told (mistaken right (breaks_first b plain))

      -- a bracket too many
      pub deep_told : {i : ℕ} {after : Bytes} {s : Said} → Parses text (Err (Deep i)) after → PlainBelow text i
          → s ≡ refused 15 i → TextRead text before s before
      deep_told (too_many_open w d) plain = fault_told (mistaken right (deep_first d plain))

    -- the text is read, or its table is too large
    pub text_told : {r : Read} {table after : Bytes} {s : Said} → TextLength text → Parses text (Ok r) table → PlainBelow text r.at
        → WrittenOut (take (6 * r.count) table) before s after → TextRead text before s after
    unfolding TextRead
    text_told right x plain a = go (rw found.front at a)
      where
        found : Whole x
        found = whole x

        faultless : Faultless text
        faultless = whole_faultless found.text_of found.shallow (rw found.end at plain)

        short_table : length (table_of found.path) ≤ 65536
        short_table = omega (arith, found.few, found.count)

        go : {s : Said} {after : Bytes} → WrittenOut (entry_bytes (table_of found.path)) before s after → TextRead text before s after
        go (done z query made) =
            let right_text : TextOf found.path text =
            record {
              length = right;
              path = found.text_of;
              faultless = faultless;
              fits = query_fits found.text_of short_table query;
            } in
            let count = made.0 ∙ ap length (table_back found.path short_table) in
            done room (found.path, right_text) (record { path = found.path; text_of = right_text; count = count; written = made.1 })
        go (short less) = absurd (omega arith)
        go (turned_away z fault) =
            let large : TextFault text 16 0 =
            too_large right found.text_of faultless (λ fits. fault.2 (fits_query found.text_of fits)) in
            turned_away room (subst₂ (TextFault text) (sym fault.0) (sym fault.1) large)
