-- What the parts of the program answer. Only inner contracts cite it.
use Rattle.std.specs.Prelude.{ℕ, ◌+◌, ◌-◌, ◌≤◌, ◌<◌, ◌≡◌, ◌⊎◌, length, take, drop}
use Prim.Native.Char.{code}
use mathlib.Core.List.{Memᴰ}
use Rattle.reply.specs.Bytes.{Bytes, Written}
use Rattle.lines.specs.Line.{longest}
use Rattle.draw.specs.Drawn.{Drawn}

-- A line that is right for the text stands in front of the lent bytes, and the count is its length.
pub record LineWritten (Line : Bytes → Type 0) (before : Bytes) (c : ℕ) (after : Bytes) : Type 0 where
  pub line : Bytes
  pub right : Line line
  pub count : c ≡ length line
  pub written : Written before line after

-- no line ends in it
abbrev pub NoLine : Bytes → Type 0
NoLine bytes = ¬ Memᴰ (code "\n") bytes

-- The first `read` bytes of the input are whole lines, and the first `written` bytes of the output are what is written for them. It goes on
-- while there is a whole line, and room for any line.
pub record LinesAnswered (Line : Bytes → Bytes → Type 0) (input : Bytes) (read written : ℕ) (output : Bytes) : Type 0 where
  pub within : read ≤ length input
  pub fits : written ≤ length output
  pub drawn : Drawn Line (take read input) (take written output)
  pub ends : NoLine (drop read input) ⊎ (length output < written + longest)

-- At the front of the buffer stand the bytes that stood from one place up to another, at most 1,025 of them.
pub record Kept (before : Bytes) (from to kept : ℕ) (after : Bytes) : Type 0 where
  pub long : length after ≡ length before
  pub most : kept ≤ 1025
  pub front : take kept after ≡ take 1025 (take (to - from) (drop from before))
