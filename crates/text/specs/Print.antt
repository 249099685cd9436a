-- What printing a table promises: of the texts of its path in which no star stands right behind a star, the one with the fewest brackets,
-- in front of the room. And what comes of printing and reading.
use Rattle.std.specs.Prelude.{ℕ, ◌*◌, ◌≤◌, ◌<◌, ◌≡◌, length, take}
use Rattle.reply.specs.Reply.{Said, count, refused}
use Rattle.reply.specs.Bytes.{Bytes, Written}
use Rattle.reply.specs.Outcome.{InTurn, Outcome}
use Rattle.query.specs.Syntax.{Path}
use Rattle.query.specs.Table.{entries, query_of}
use Rattle.query.specs.Fault.{curators, Query, QueryFault}
use Rattle.text.specs.Grammar.{PathText}
use Rattle.text.specs.Written.{table_of}
use Rattle.text.specs.Promise.{opening, how_many, StarBehindStar, TextRead}

-- A text of the path in which no star stands right behind a star: "Brackets, as in (v*)*, still say it on purpose".
pub record PlainText (p : Path) (text : Bytes) : Type 0 where
  pub text_of : PathText text p
  pub plain : (k : ℕ) → ¬ StarBehindStar text k

-- "query text with the fewest brackets that keep its grouping": such a text, and none of that path has fewer brackets that open
pub record Fewest (p : Path) (text : Bytes) : Type 0 where
  pub of : PlainText p text
  pub fewest : (other : Bytes) → PlainText p other → how_many opening text ≤ how_many opening other

-- 18, "exactly when that text would be longer than 1,024 bytes"
pub data TooLong (p : Path) : ℕ → ℕ → Type 0 where
  too_long : {text : Bytes} → Fewest p text → 1024 < length text → TooLong p 18 0

module _ (table : Bytes) where
  -- The table is a query whose text has at most 1,024 bytes.
  pub record Printable : Type 0 where
    pub query : Query curators table
    pub text : Bytes
    pub printed : Fewest (query_of (entries table)) text
    pub most : length text ≤ 1024

  -- "Refusals: 1, then the query's checks in their order, then 18"
  unfoldable pub PrintFault : ℕ → ℕ → Type 0
  PrintFault = InTurn (Query curators table) (QueryFault curators table) (TooLong (query_of (entries table)))

  -- The text stands in front of the room, and the count is its number of bytes.
  pub record TextGiven (before : Bytes) (c : ℕ) (after : Bytes) : Type 0 where
    pub text : Bytes
    pub printed : Fewest (query_of (entries table)) text
    pub count : c ≡ length text
    pub written : Written before text after

  -- "A table within the curator's limits becomes query text"; "room is 1,024 bytes".
  unfoldable pub TablePrinted : Bytes → Said → Bytes → Type 0
  TablePrinted before said after = Outcome 1024 Printable PrintFault (TextGiven before) before said after

-- How it comes out when what was printed of a table is read: as a query of the same path, which has "the same answers on every roll"; or as
-- "refusal 16 because shared entries were written out", exactly when the path's own table, in which none is shared, has more than 256.
pub data ReadAgain (table : Bytes) : Said → Bytes → Type 0 where
  same_query : {n : ℕ} {after : Bytes} → length (table_of (query_of (entries table))) ≤ 256 → Query curators (take (6 * n) after)
      → query_of (entries (take (6 * n) after)) ≡ query_of (entries table) → ReadAgain table (count n) after
  too_many : {after : Bytes} → 256 < length (table_of (query_of (entries table))) → ReadAgain table (refused 16 0) after

-- Printing and reading, said of whatever fits the two promises, in rooms that are large enough.
pub record RoundTrip : Type 0 where
  -- A table of n entries that the reader wrote is printed,
  pub printed : (text room table room' text' : Bytes) (n : ℕ) (said : Said)
      → TextRead text room (count n) table
      → TablePrinted (take (6 * n) table) room' said text' → 1024 ≤ length room'
      → (c : ℕ) × (said ≡ count c)
  -- and "printing and reading give the same bytes".
  pub same_bytes : (text room table room' text' room'' table'' : Bytes) (n c : ℕ) (said : Said)
      → TextRead text room (count n) table
      → TablePrinted (take (6 * n) table) room' (count c) text'
      → TextRead (take c text') room'' said table'' → 1536 ≤ length room''
      → (said ≡ count n) × (take (6 * n) table'' ≡ take (6 * n) table)
  -- "For any other, a query with the same answers on every roll, or refusal 16".
  pub same_answers : (table room text room' table' : Bytes) (c : ℕ) (said : Said)
      → TablePrinted table room (count c) text
      → TextRead (take c text) room' said table' → 1536 ≤ length room'
      → ReadAgain table said table'
