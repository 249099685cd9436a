-- What answers the whole lines of a piece of standard input. That the program reads it all and writes this out is no part of it.
use Rattle.std.specs.Prelude.{ℕ, replicate}
use Prim.Native.Char.{code}
use mathlib.Core.List.{[], ◌∷◌, ◌++◌, Memᴰ}
use Rattle.reply.specs.Reply.{Said, refused}
use Rattle.reply.specs.Bytes.{Bytes}
use Rattle.query.specs.Syntax.{Path}
use Rattle.query.specs.Table.{entry_bytes}
use Rattle.text.specs.Written.{table_of}
use Rattle.text.specs.Promise.{TextOf, TextFault}
use Rattle.curator.specs.Promise.{CuratorAnswered}
use Rattle.lines.specs.Line.{line_of}

-- The line for a query text, with what the three files hold: the text's refusal, or what call 6 says of the text's table, lent 512 zeros.
-- "If text and roll are both bad, the text's refusal is written."
pub data LineFor (roll annotation filters text : Bytes) : Bytes → Type 0 where
  text_refused : {n p : ℕ} → TextFault text n p → LineFor roll annotation filters text (line_of (refused n p) [])
  answered : {path : Path} (said : Said) (map : Bytes) → TextOf path text
      → CuratorAnswered roll annotation filters (entry_bytes (table_of path)) (replicate 512 0) said map
      → LineFor roll annotation filters text (line_of said map)

-- "Each line of standard input is one query text, without its line feed": whole lines that were read, and what was written for them.
pub data Drawn (Line : Bytes → Bytes → Type 0) : Bytes → Bytes → Type 0 where
  none : Drawn Line [] []
  one_more : {read written text line : Bytes} → Drawn Line read written → ¬ Memᴰ (code "\n") text → Line text line
      → Drawn Line (read ++ text ++ code "\n" ∷ []) (written ++ line)
