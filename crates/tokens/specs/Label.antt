-- What the reader of a label comes to, in terms of the rules of reading. Nothing here has to be believed.
use Rattle.std.specs.Prelude.{ℕ, ◌+◌, ◌≤◌, ◌<◌, ◌≡◌, length, drop, Option, Some, None}
use Rattle.reply.specs.Bytes.{Bytes}
use Rattle.derivation.proofs.Rules.{broken, got, stopped, LabelReads}
use Rattle.tokens.specs.declared.label.Label.{Label}

-- The value of a byte as a digit, where it is one.
pub data DigitOf (byte : ℕ) : Option ℕ → Type 0 where
  digit : {d : ℕ} → d ≤ 9 → byte ≡ 48 + d → DigitOf byte (Some d)
  too_low : byte < 48 → DigitOf byte None
  too_high : 57 < byte → DigitOf byte None

-- The label that is read at a place, with the next place; or that there is none.
pub data LabelAt (text : Bytes) (at : ℕ) : Option Label → Type 0 where
  number : {l : Label} → LabelReads (drop at text) (got l.value (drop l.next text)) → at < l.next → l.next ≤ length text
      → LabelAt text at (Some l)
  nothing : LabelReads (drop at text) (stopped broken (drop at text)) → LabelAt text at None
