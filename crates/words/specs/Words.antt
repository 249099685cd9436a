-- The word of a node, gathered from a roll.
use Rattle.std.specs.Prelude.{ℕ, ◌<◌, ◌≡◌, length, take}
use Rattle.reply.specs.Bytes.{Bytes}
use Rattle.rules.specs.Language.{Word}

-- the word stands at the front of the bytes, and has n labels
pub record Gathered (w : Word) (bytes : Bytes) (n : ℕ) : Type 0 where
  pub size : n ≡ length w
  pub few : n < 4096
  pub front : take n bytes ≡ w
