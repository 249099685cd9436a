-- The bytes that entries are written as: how many they are, how they stand behind each other, and that they are read back. Assumes nothing.
use Prim.Native.Nat.{ℕ, ◌*◌, ◌/◌, ◌%◌, ◌<◌}
use native.Mathlib.Omega.{arith}
use mathlib.Core.Path.{◌≡◌, refl, ap}
use mathlib.Core.List.{[], ◌∷◌, ◌++◌}
use lib.ListN.{length}
use Rattle.reply.specs.Bytes.{Bytes, two, two_bytes}
use Rattle.query.specs.Table.{Entry, Entries, entries, entry_bytes}

-- six bytes for each entry
pub bytes_length : (es : Entries) → length (entry_bytes es) ≡ 6 * length es
unfolding entry_bytes two_bytes
bytes_length [] = refl
bytes_length (e ∷ es) = omega (arith, bytes_length es)

-- the bytes of two lists of entries stand behind each other
pub bytes_of_both : (es fs : Entries) → entry_bytes (es ++ fs) ≡ entry_bytes es ++ entry_bytes fs
unfolding entry_bytes two_bytes
bytes_of_both [] fs = refl
bytes_of_both (e ∷ es) fs = rw (bytes_of_both es fs)

-- behind whole entries the rest is read by itself
pub entries_of_both : (b more : Bytes) → length b % 6 ≡ 0 → entries (b ++ more) ≡ entries b ++ entries more
unfolding entries
entries_of_both [] more whole = refl
entries_of_both (a ∷ []) more whole = absurd (omega arith)
entries_of_both (a ∷ b ∷ []) more whole = absurd (omega arith)
entries_of_both (a ∷ b ∷ c ∷ []) more whole = absurd (omega arith)
entries_of_both (a ∷ b ∷ c ∷ d ∷ []) more whole = absurd (omega arith)
entries_of_both (a ∷ b ∷ c ∷ d ∷ e ∷ []) more whole = absurd (omega arith)
entries_of_both (kind ∷ label ∷ l ∷ l' ∷ r ∷ r' ∷ rest) more whole =
    let e : Entry = record { kind = kind; label = label; left = two l l'; right = two r r' } in
    ap (λ (es : Entries). e ∷ es) (entries_of_both rest more (omega arith))

-- The operands' numbers are all below a bound.
pub data Below (bound : ℕ) : Entries → Type 0 where
  none : Below bound []
  one : {e : Entry} {es : Entries} → e.left < bound → e.right < bound → Below bound es → Below bound (e ∷ es)

-- a number of two bytes is read back
two_back : (n : ℕ) → n < 65536 → two (n % 256) (n / 256 % 256) ≡ n
two_back n l = omega arith

-- entries whose operands' numbers have two bytes are read back from their bytes
pub entries_back : {es : Entries} → Below 65536 es → entries (entry_bytes es) ≡ es
unfolding entries entry_bytes two_bytes
entries_back none = refl
entries_back (one {e = e} l r more) =
    let rest = entries_back more in
    λ i. record { kind = e.kind; label = e.label; left = two_back e.left l i; right = two_back e.right r i } ∷ rest i
