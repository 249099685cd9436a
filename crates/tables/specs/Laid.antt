-- Entries that are written. Nothing here has to be believed: it names what the code that writes them leaves in the bytes it is lent.
use Rattle.std.specs.Prelude.{ℕ, ◌*◌}
use Rattle.std.proofs.lemmas.List.Edits.{sets}
use Rattle.reply.specs.Bytes.{Bytes}
use Rattle.query.specs.Table.{Entry, Entries, entry_bytes}

-- the bytes of entries, stored behind n others
abbrev pub laid : Bytes → ℕ → Entries → Bytes
laid out n es = sets out (6 * n) (entry_bytes es)

-- an entry by its fields
abbrev pub fields : ℕ → ℕ → ℕ → ℕ → Entry
fields kind label left right = record { kind = kind; label = label; left = left; right = right }
