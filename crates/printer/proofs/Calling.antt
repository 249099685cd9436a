-- How printing comes to its reply. Assumes nothing.
use Prim.Native.Nat.{ℕ, ◌-◌, ◌≤◌, ◌<◌}
use native.Mathlib.Omega.{arith}
use mathlib.Core.Path.{◌≡◌, ap, ◌∙◌}
use mathlib.Core.List.{[], ◌++◌}
use lib.ListN.{length, drop}
use Rattle.std.specs.Prelude.{Result, Ok, Err}
use Rattle.reply.specs.declared.Refusal.{Refusal}
use Rattle.reply.specs.Reply.{Said, count, refused, said}
use Rattle.reply.specs.Bytes.{Bytes}
use Rattle.reply.specs.Outcome.{first, behind, done, short, turned_away}
use Rattle.reply.proofs.Checking.{faulted}
use Rattle.query.specs.Kind.{path}
use Rattle.query.specs.Table.{Entries, entries, query_of}
use Rattle.query.specs.Fault.{curators, last, Query}
use Rattle.query.proofs.Tables.{entries_length}
use Rattle.tables.specs.Promise.{QueryChecked}
use Rattle.text.specs.Print.{Fewest, too_long, PrintFault, TablePrinted}
use Rattle.shortest.proofs.Shown.{path_held, path_shown}
use Rattle.shortest.proofs.Texts.{shown_fewest}
use Rattle.shortest.proofs.Queries.{query_limited}
use Rattle.printer.specs.declared.writing.TooLong as printer
use Rattle.printer.specs.Printing.{Goes, entry_held}
use Rattle.printer.proofs.Made.{unbracketed, held_as_lem}

module _ (table before : Bytes) where
  -- the room is too short
  pub too_short : {s : Said} → length before < 1024 → s ≡ refused 1 0 → TablePrinted table before s before
  unfolding TablePrinted
  too_short l e = rw e (short l)

  -- the table is refused
  pub refused_table : {r up : Result ℕ Refusal} {x : Refusal} → r ≡ Err x → up ≡ Err x → QueryChecked curators table (said r)
      → 1024 ≤ length before → TablePrinted table before (said up) before
  unfolding TablePrinted PrintFault
  refused_table e f checked room = rw f (turned_away room (first (faulted (rw e at checked))))

-- A table that is a query.
module _ {table : Bytes} (query : Query curators table) where
  abbrev es : Entries
  es = entries table

  -- it has a last entry
  pub last_within : length es - 1 < length es
  last_within =
      let some = query.size.some in
      let whole = query.size.size.multiple in
      omega (arith, entries_length table)

  -- whose text, where nothing is asked for, is what is shown for its path,
  held_path : entry_held 0 es (length es - 1) ≡ path_shown (query_of es)
  unfolding last query_of path_held
  held_path = held_as_lem es (length es - 1) last_within path query.path 0 ∙ unbracketed _ _ _ _

  -- the one with the fewest brackets
  fewest : Fewest (query_of es) (path_shown (query_of es))
  fewest = shown_fewest (query_of es) (query_limited query).labels

  -- It goes behind nothing.
  module _ {x text : Bytes} (nothing : x ≡ []) {r : Result Unit printer.TooLong} (goes : Goes (entry_held 0 es (length es - 1)) x r text)
      (before : Bytes) where
    -- it fits, and is copied to the front of the room
    pub fits : {done : Unit} → r ≡ Ok done → (text ≡ path_shown (query_of es)) × (length text ≤ 1024)
    fits e = let (same, most) = rw (e, nothing) at goes.fits in (same ∙ held_path, most)

    pub printed : {done : Unit} → r ≡ Ok done → 1024 ≤ length before → {written : Bytes} → written ≡ text
        → {room : Bytes} → room ≡ written ++ drop (length written) before → TablePrinted table before (count (length written)) room
    unfolding TablePrinted
    printed e enough {written} is copied =
        let text_is : written ≡ path_shown (query_of es) = is ∙ (fits e).0 in
        let size : length written ≡ length (path_shown (query_of es)) = ap length text_is in
        let most : length written ≤ 1024 = rw is (fits e).1 in
        done enough (record { query = query; text = path_shown (query_of es); printed = fewest; most = omega arith })
        (record {
          text = path_shown (query_of es);
          printed = fewest;
          count = size;
          written = record { room = omega arith; bytes = rw text_is at copied };
        })

    -- it does not
    pub not_printed : {full : printer.TooLong} {s : Said} → r ≡ Err full → 1024 ≤ length before → s ≡ refused 18 0
        → TablePrinted table before s before
    unfolding TablePrinted PrintFault
    not_printed e enough says = rw says (turned_away enough (behind query (too_long fewest (rw (nothing, held_path) at (rw e at goes.full)))))
