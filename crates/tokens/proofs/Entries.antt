-- Entries that are added to a table in turn. Assumes nothing.
use Prim.Native.Nat.{ℕ, ◌+◌, ◌*◌}
use native.Mathlib.Omega.{arith}
use mathlib.Core.Path.{◌≡◌}
use mathlib.Core.List.{◌++◌, append_assoc}
use lib.ListN.{length, take, length-append}
use Rattle.reply.specs.Bytes.{Bytes}
use Rattle.query.specs.Table.{Entries, entry_bytes}
use Rattle.query.proofs.Bytes.{bytes_of_both}
use Rattle.tokens.specs.Reading.{Added}

-- what is added behind what was added
pub added_on : {t u v : Bytes} {n m : ℕ} {es fs : Entries} → Added t n es u → m ≡ n + length es → Added u m fs v → Added t n (es ++ fs) v
added_on {t = t} {n = n} {m = m} {es = es} {fs = fs} a e b =
    let len : n + length (es ++ fs) ≡ m + length fs = omega (arith, length-append es fs) in
    record {
      front = rw (len, b.front, e, a.front, bytes_of_both) (append_assoc (take (6 * n) t) (entry_bytes es) (entry_bytes fs));
    }
