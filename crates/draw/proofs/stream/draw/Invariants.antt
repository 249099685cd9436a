-- `draw` is safe and ends. The buffers keep their lengths, and few bytes are kept.
use Prim.Native.Nat.{◌≤◌}
use mathlib.Core.Path.{◌≡◌}
use lib.ListN.{length}
use Rattle.draw.proofs.stream.draw.Given as goal

abbrev pub invariant-loop : goal.invariant-loop
invariant-loop l =
    (l.kept ≤ 1025) × (length l.buffer ≡ 65536) × (length l.out ≡ 86039)
