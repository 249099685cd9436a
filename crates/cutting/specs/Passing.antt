-- What the scan has come to, of the struct that holds it. Only inner contracts cite it.
use Rattle.std.specs.Prelude.{ℕ, ◌*◌, ◌≡◌, length, drop}
use Rattle.std.specs.Borrow.{MutBor}
use Rattle.reply.specs.Bytes.{Bytes}
use Rattle.tree.specs.Tree.{Tree}
use Rattle.cutting.specs.declared.Scan.{Scan}
use Rattle.cutting.specs.Scan.{Scanned}

-- it has passed n records
abbrev pub Passed : Tree → (ℕ → Type 0) → ℕ → Scan → Type 0
Passed t Seen n s = Scanned t Seen n s.places s.written s.room.now

-- its room is the one that was lent, and behind the records written it is as it was
pub record RestKept (lent : MutBor Bytes) (s : Scan) : Type 0 where
  pub same : s.room.ghost_name ≡ lent.ghost_name
  pub long : length s.room.now ≡ length lent.now
  pub behind : drop (4 * s.written) s.room.now ≡ drop (4 * s.written) lent.now
