-- Where the part that call 7 gives lies in the roll, from its length alone. Assumes nothing.
use Prim.Native.Nat.{ℕ, ◌+◌, ◌-◌, ◌*◌, ◌≤◌, ◌<◌}
use native.Mathlib.Omega.{arith}
use mathlib.Core.Path.{◌≡◌}
use denote.Ref.{Bor}
use lib.ListN.{length}
use lib.Seq.{slice, length-slice}
use Rattle.reply.specs.Bytes.{Bytes}
use Rattle.tree.specs.Tree.{RunEnds}
use Rattle.roll.specs.Roll.{nodes, Roll}
use Rattle.roll.specs.Promise.{RunPlace, bad_roll, no_record, run, RunGiven}
use Rattle.roll.proofs.Parts.{run_inside}

module _ {roll : Bytes} {k : ℕ} where
  -- a run has as many bytes as lie between its start and its end
  run_length : {e : ℕ} → Roll roll → k < length (nodes roll) → RunEnds (nodes roll) k e
      → length (slice (4 * k) (4 * e) roll) ≡ 4 * e - 4 * k
  run_length {e} r l ends = length-slice (4 * k) (4 * e) roll (run_inside r l ends).1

  -- no run is empty, so what is empty lies at 0
  empty : {s e : ℕ} → RunPlace roll k s e → length (slice s e roll) ≡ 0 → RunPlace roll k 0 0
  empty (bad_roll n) z = bad_roll n
  empty (no_record l) z = no_record l
  empty (run r l ends) z = absurd (omega (arith, run_length r l ends, run_inside r l ends))

  -- and what is not is the run of a record, which lies from the record's first byte on, within the longest roll
  full : {s e : ℕ} → RunPlace roll k s e → 0 < length (slice s e roll)
      → RunPlace roll k (4 * k) (4 * k + length (slice s e roll)) × (4 * k + length (slice s e roll) ≤ 16384)
  full (bad_roll n) z = absurd (omega arith)
  full (no_record l) z = absurd (omega arith)
  full (run {e = e} r l ends) z =
      let inside = run_inside r l ends in
      let stops : 4 * k + length (slice (4 * k) (4 * e) roll) ≡ 4 * e = omega (arith, run_length r l ends) in
      rw stops (run r l ends, omega (arith, r.size.size.most))

module _ {table part : Bor Bytes} {k : ℕ} (given : RunGiven table k part) where
  -- the same of a part that was given
  pub empty_place : {s e : ℕ} → length part.now ≡ 0 → s ≡ 0 → e ≡ 0 → RunPlace table.now k s e
  empty_place z start end = rw (start, end) (empty given.place (rw given.bytes at z))

  pub full_place : 0 < length part.now → RunPlace table.now k (4 * k) (4 * k + length part.now) × (4 * k + length part.now ≤ 16384)
  full_place z = rw given.bytes (full given.place (rw given.bytes at z))
