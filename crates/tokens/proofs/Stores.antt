-- Entries that are laid behind others stand there. Assumes nothing.
use Prim.Native.Nat.{ℕ, ◌+◌, ◌*◌, ◌≤◌}
use native.Mathlib.Omega.{arith}
use mathlib.Core.Path.{◌≡◌}
use lib.ListN.{length}
use Rattle.reply.specs.Bytes.{Bytes}
use Rattle.reply.proofs.Stores.{stored_front}
use Rattle.query.specs.Table.{Entries, entry_bytes}
use Rattle.query.proofs.Bytes.{bytes_length}
use Rattle.tables.specs.Laid.{laid}
use Rattle.tokens.specs.Reading.{Added}

pub added : {t after : Bytes} {n : ℕ} (es : Entries) → 6 * (n + length es) ≤ length t → after ≡ laid t n es → Added t n es after
added {t} {n = n} es fits written =
    let size = bytes_length es in
    let end : 6 * (n + length es) ≡ 6 * n + length (entry_bytes es) = omega arith in
    record { front = rw (end, written) (stored_front t (6 * n) (entry_bytes es) (omega arith)) }
