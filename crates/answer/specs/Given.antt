-- What is said and written where a set of nodes is given. Only inner contracts cite it.
use Rattle.std.specs.Prelude.{ℕ, ◌≡◌}
use Rattle.reply.specs.Reply.{Said, count}
use Rattle.reply.specs.Bytes.{Bytes}
use Rattle.answer.specs.Bitmap.{SetGiven}

pub record BitmapGiven (Set : ℕ → Type 0) (before : Bytes) (said : Said) (after : Bytes) : Type 0 where
  pub ones : ℕ
  pub counted : said ≡ count ones
  pub given : SetGiven Set before ones after
