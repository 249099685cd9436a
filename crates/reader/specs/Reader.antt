-- What the parts of call 2 come to: a text is parsed whole, and the table of a text in the grammar is written out if it is within the
-- limits. Nothing here has to be believed: call 2's promise is the crate text's.
use Rattle.std.specs.Prelude.{ℕ, ◌*◌, ◌≤◌, ◌<◌, ◌≡◌, length, take, Option, Some, None, Ok, Err}
use Rattle.reply.specs.Reply.{Said}
use Rattle.reply.specs.Bytes.{Bytes, Written}
use Rattle.reply.specs.Outcome.{Outcome}
use Rattle.query.specs.Syntax.{Path}
use Rattle.query.specs.Table.{entries, entry_bytes}
use Rattle.query.specs.Fault.{curators, Query}
use Rattle.text.specs.Grammar.{PathText}
use Rattle.text.specs.Written.{table_of}
use Rattle.text.specs.Promise.{OneTooMany, StarBehindStar}
use Rattle.derivation.proofs.Judged.{BreaksFirst, DeepFirst}
use Rattle.tokens.specs.declared.answer.Read.{Read}
use Rattle.tokens.specs.declared.answer.Stopped.TheVariants.{Broken, Deep}
use Rattle.tokens.specs.Reading.{Answer}

-- The text is one of a path, whose n entries stand at the front of the table; or it breaks, or a bracket is one too many. Stars are not
-- asked for.
pub data Parses (text : Bytes) : Answer → Bytes → Type 0 where
  parses : {p : Path} {r : Read} {after : Bytes} → PathText text p → ((k : ℕ) → ¬ OneTooMany text k) → r.at ≡ length text
      → r.count ≡ length (table_of p)
      → 6 * r.count ≤ length after
      → r.count ≤ 2048 → take (6 * r.count) after ≡ entry_bytes (table_of p) → Parses text (Ok r) after
  breaks_off : {i : ℕ} {after : Bytes} → i ≤ length text → BreaksFirst text i → Parses text (Err (Broken i)) after
  too_many_open : {i : ℕ} {after : Bytes} → i ≤ length text → DeepFirst text i → Parses text (Err (Deep i)) after

-- the place of the first star right behind a star, of those before the place `end`, or that there is none
abbrev pub FirstSlip : Bytes → ℕ → Option ℕ → Type 0
FirstSlip text end (Some i) = (i < end) × StarBehindStar text i × ((k : ℕ) → k < i → ¬ StarBehindStar text k)
FirstSlip text end None = (k : ℕ) → k < end → ¬ StarBehindStar text k

-- The table is written into the room if it is a curator's query, and refused with 16 if not.
abbrev pub WrittenOut : Bytes → Bytes → Said → Bytes → Type 0
WrittenOut table before said after =
    Outcome 0 (Query curators table) (λ n p. (n ≡ 16) × (p ≡ 0) × ¬ Query curators table)
    (λ c front. (c ≡ length (entries table)) × Written before table front) before said after
