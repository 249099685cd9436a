-- What a function that writes a piece of a line leaves behind. Only inner contracts cite it.
use Rattle.std.specs.Prelude.{ℕ, ◌+◌, ◌≤◌, ◌<◌, ◌≡◌, [], ◌∷◌, ◌++◌, length, take, drop}
use Prim.Native.Char.{code}
use Rattle.reply.specs.Bytes.{Bytes}
use Rattle.reply.specs.Reply.{Said, count, refused}
use Rattle.lines.specs.Line.{spaced, positions, longest}
use Rattle.lines.specs.declared.line.Line.{Line}

-- `text` stands from the place `at` up to `to`, and all other bytes are as they were.
pub record Put (before : Bytes) (at : ℕ) (text : Bytes) (to : ℕ) (after : Bytes) : Type 0 where
  pub end : to ≡ at + length text
  pub bytes : after ≡ take at before ++ text ++ drop to before

-- In the same lent bytes `text` is put behind what the line had.
pub record Wrote (before : Line) (text : Bytes) (after : Line) : Type 0 where
  pub same : after.out.ghost_name ≡ before.out.ghost_name
  pub long : length after.out.now ≡ length before.out.now
  pub fits : after.at ≤ length before.out.now
  pub put : Put before.out.now before.at text after.at after.out.now

-- a line without its line feed
unfoldable pub unended : Said → Bytes → Bytes
unended (count n) map = code "A" ∷ spaced (n ∷ positions map 4096)
unended (refused n p) map = code "R" ∷ spaced (n ∷ p ∷ [])

-- it is put, and the line feed has room behind it
pub record Begun (said : Said) (map : Bytes) (before after : Line) : Type 0 where
  pub wrote : Wrote before (unended said map) after
  pub room : after.at < before.at + longest
