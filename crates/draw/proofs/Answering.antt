-- How a text comes to its line: by the reader's refusal, or by the answer to its table. Assumes nothing.
use Prim.Native.Nat.{ℕ, ◌*◌, ◌≤◌}
use native.Mathlib.Omega.{arith}
use mathlib.Core.Path.{◌≡◌, sym, ap, ◌∙◌, subst}
use lib.ListN.{length, take, drop, replicate, length-append}
use lib.Seq.{take_at}
use Rattle.reply.specs.declared.Refusal.{Refusal}
use Rattle.std.specs.Prelude.{Result, Ok, Err}
use Rattle.reply.specs.Reply.{Said, count, refused, said}
use Rattle.reply.specs.Bytes.{Bytes}
use Rattle.reply.specs.Outcome.{done, short, turned_away}
use Rattle.query.specs.Syntax.{Path}
use Rattle.query.specs.Table.{entry_bytes}
use Rattle.text.specs.Written.{table_of}
use Rattle.text.specs.Promise.{TextOf, TextFault, TextRead}
use Rattle.query.proofs.Bytes.{bytes_length}
use Rattle.curator.specs.Promise.{CuratorAnswered}
use Rattle.lines.specs.Line.{line_of, LineGiven}
use Rattle.draw.specs.Drawn.{LineFor, text_refused, answered}
use Rattle.draw.specs.Inner.{LineWritten}

-- the first 6 n bytes are the table of a text
pub record TableRead (text : Bytes) (n : ℕ) (bytes : Bytes) : Type 0 where
  pub path : Path
  pub text_of : TextOf path text
  pub few : 6 * n ≤ 1536
  pub long : 6 * n ≤ length bytes
  pub front : take (6 * n) bytes ≡ entry_bytes (table_of path)

-- the reader's room
abbrev room : Bytes
room = replicate 1536 0

module _ {text : Bytes} where
  -- a text that is read has its table in front of the room
  pub table_read : {r : Result ℕ Refusal} {n : ℕ} {after : Bytes} → r ≡ Ok n → TextRead text room (said r) after → TableRead text n after
  unfolding TextRead
  table_read {n = n} {after} e x = go (subst (λ (r : Result ℕ Refusal). TextRead text room (said r) after) e x)
    where
      go : TextRead text room (count n) after → TableRead text n after
      go (done _ _ given) =
          let bytes = entry_bytes (table_of given.path) in
          let size : length bytes ≡ 6 * n = bytes_length (table_of given.path) ∙ ap (λ (k : ℕ). 6 * k) (sym given.count) in
          let whole = given.written.bytes in
          let fits : length bytes ≤ 1536 = given.written.room in
          record {
            path = given.path;
            text_of = given.text_of;
            few = omega arith;
            long = omega (arith, ap length whole ∙ length-append bytes (drop (length bytes) room));
            front = ap (take (6 * n)) whole ∙ take_at bytes (drop (length bytes) room) (6 * n) size;
          }

  -- a text that is refused has the fault
  text_fault : (after : Bytes) {n p : ℕ} → TextRead text room (refused n p) after → TextFault text n p
  unfolding TextRead
  text_fault after (short less) = absurd (omega arith)
  text_fault after (turned_away _ fault) = fault

  module _ {roll annotation filters map out last : Bytes} {c : ℕ} where
    -- its line is that of the refusal
    pub refused_line : (r : Result ℕ Refusal) {refusal : Refusal} (after : Bytes) → r ≡ Err refusal → TextRead text room (said r) after
        → LineGiven (said r) map out c last → LineWritten (LineFor roll annotation filters text) out c last
    unfolding line_of
    refused_line (Ok n) after no_such x given = cc
    refused_line (Err x) after e read given =
        record { line = _; right = text_refused (text_fault after read); count = given.count; written = given.written }

    -- the line of any other text is that of the answer to its table
    pub answered_line : {s : Said} {n : ℕ} {table : Bytes} → TableRead text n table
        → CuratorAnswered roll annotation filters (take (6 * n) table) (replicate 512 0) s map
        → LineGiven s map out c last → LineWritten (LineFor roll annotation filters text) out c last
    answered_line {s} t x given = record {
      line = line_of s map;
      right = answered s map t.text_of
          (subst (λ (b : Bytes). CuratorAnswered roll annotation filters b (replicate 512 0) s map) t.front x);
      count = given.count;
      written = given.written;
    }
