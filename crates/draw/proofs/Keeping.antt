-- A line that has not ended is moved to the front of the buffer. Assumes nothing.
use Prim.Native.Nat.{ℕ, ◌-◌, ◌≤◌, min, zero-le}
use native.Mathlib.Nat.{zero-add}
use native.Mathlib.Omega.{arith}
use mathlib.Core.Path.{◌≡◌, sym, ap, ap₂, ◌∙◌}
use lib.ListN.{length, take, drop, length-drop}
use lib.Seq.{paste, length-paste, take-paste, take-take, length-take-le}
use Rattle.std.proofs.lemmas.List.{take_min}
use Rattle.reply.specs.Bytes.{Bytes}
use Rattle.draw.specs.Inner.{Kept}

-- its bytes, or the first 1,025 of them, are copied
pub kept_front : (before : Bytes) (from to kept : ℕ) {after : Bytes} → from ≤ to → to ≤ length before → kept ≡ min 1025 (to - from)
    → after ≡ paste before 0 (drop from before) kept → Kept before from to kept after
kept_front before from to kept {after} starts ends least copied = record {
  long = ap length copied ∙ length-paste before 0 (drop from before) kept (omega arith) there;
  most = omega arith;
  front = ap₂ take (sym (zero-add kept)) copied ∙ take-paste before 0 (drop from before) kept zero-le there
      ∙ sym (take-take kept (to - from) (drop from before) (omega arith)) ∙ ap (λ (n : ℕ). take n line) few ∙ take_min 1025 line;
}
  where
    there : kept ≤ length (drop from before)
    there = omega (arith, length-drop from before)

    line : Bytes
    line = take (to - from) (drop from before)

    few : kept ≡ min 1025 (length line)
    few = least ∙ ap (min 1025) (sym (length-take-le (to - from) (drop from before) (omega (arith, length-drop from before))))
