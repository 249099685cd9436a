-- Why 1,025 bytes of a line that has not ended are enough: with whatever follows, they are answered as the whole line is. Assumes nothing.
use Prim.Native.Nat.{◌≤◌, ◌<◌}
use native.Mathlib.Decide.{dec_le}
use native.Mathlib.Omega.{arith}
use mathlib.Core.Path.{subst}
use mathlib.Core.List.{◌++◌}
use lib.ListN.{length, take, length-append}
use lib.Seq.{length-take-le, take_all}
use Rattle.reply.specs.Bytes.{Bytes}
use Rattle.text.specs.Promise.{bad_length, mistaken, too_large}
use Rattle.draw.specs.Drawn.{LineFor, text_refused, answered}

module _ {roll annotation filters : Bytes} where
  -- all texts that are too long have one line
  too_long_alike : (long : Bytes) {text line : Bytes} → 1024 < length long → 1024 < length text
      → LineFor roll annotation filters text line → LineFor roll annotation filters long line
  too_long_alike long l h (text_refused (bad_length f)) = text_refused (bad_length (λ t. let m = t.most in omega arith))
  too_long_alike long l h (text_refused (mistaken t x)) = absurd (omega (arith, t.most))
  too_long_alike long l h (text_refused (too_large t x s f)) = absurd (omega (arith, t.most))
  too_long_alike long l h (answered s map t x) = absurd (omega (arith, t.length.most))

  -- the bytes that are kept of a line give its answer, whatever follows them
  pub kept_enough : (rest more : Bytes) {line : Bytes} → LineFor roll annotation filters (take 1025 rest ++ more) line
      → LineFor roll annotation filters (rest ++ more) line
  kept_enough rest more {line} x = by (dec_le (length rest) 1025)
    where
      by : Dec (length rest ≤ 1025) → LineFor roll annotation filters (rest ++ more) line
      by (yes few) = subst (λ (b : Bytes). LineFor roll annotation filters (b ++ more) line) (take_all 1025 rest few) x
      by (no many) =
          let whole = length-append rest more in
          let front = length-take-le 1025 rest (omega arith) in
          too_long_alike (rest ++ more) (omega arith) (omega (arith, length-append (take 1025 rest) more)) x
