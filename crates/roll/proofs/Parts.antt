-- Runs as parts of a table: which bytes they are, and when a part of the table is the run that call 7 promises. Assumes nothing.
use Prim.Native.Nat.{ℕ, zero, suc, ◌+◌, ◌-◌, ◌*◌, ◌≤◌, ◌<◌}
use native.Mathlib.Nat.{sub-zero, add-zero, add_comm}
use native.Mathlib.Omega.{arith}
use mathlib.Core.Path.{◌≡◌, ◌∙◌}
use mathlib.Core.List.{[], ◌∷◌}
use denote.Ref.{Bor}
use lib.ListN.{length, take, drop}
use lib.Seq.{slice, take-nil}
use Rattle.reply.specs.Bytes.{Bytes}
use Rattle.tree.specs.Tree.{RunEnds}
use Rattle.tree.proofs.Runs.{run_ends_behind}
use Rattle.roll.specs.Roll.{nodes, Roll}
use Rattle.roll.specs.Promise.{RunPlace, run, RunGiven}
use Rattle.roll.proofs.Deciding.{roll_in_order}
use Rattle.roll.proofs.Records.{count_nodes}

-- the part from f up to t is as many bytes as lie between them, from f on
pub slice_part : (f t : ℕ) (b : Bytes) → f ≤ t → take (t - f) (drop f b) ≡ slice f t b
slice_part zero t b h = rw sub-zero
slice_part (suc f) zero b h = absurd (omega arith)
slice_part (suc f) (suc t) [] h = take-nil (suc t - suc f)
slice_part (suc f) (suc t) (x ∷ more) h =
    let e : suc t - suc f ≡ t - f = omega arith in
    rw e (slice_part f t more (omega arith))

module _ {b : Bytes} {k e : ℕ} (r : Roll b) (l : k < length (nodes b)) (ends : RunEnds (nodes b) k e) where
  -- a run has records, and their bytes lie in the table
  pub run_inside : (k < e) × (4 * e ≤ length b)
  run_inside =
      let (low, high) = run_ends_behind (nodes b) (roll_in_order r) l ends in
      (low, omega (arith, count_nodes b))

  -- it lies from the first byte of record k on, four bytes for each of its records
  pub run_place : RunPlace b k (4 * k) (4 * k + 4 * (e - k))
  run_place =
      let (low, high) = run_inside in
      let same : 4 * k + 4 * (e - k) ≡ 4 * e = omega arith in
      rw same (run r l ends)

module _ {table part : Bor Bytes} {k : ℕ} where
  -- the empty part that begins where the table does
  pub empty_given : RunPlace table.now k 0 0 → part.ref_ptr ≡ table.ref_ptr → part.now ≡ [] → RunGiven table k part
  empty_given place p b = record { start = 0; end = 0; pointer = rw (p, add-zero); bytes = b; place = place }

  -- the part from byte `start` of the table up to byte `end`
  pub part_given : {start end : ℕ} → start ≤ end → part.ref_ptr ≡ (table.ref_ptr.0, start + table.ref_ptr.1)
      → part.now ≡ take (end - start) (drop start table.now) → RunPlace table.now k start end → RunGiven table k part
  part_given {start} {end} l p b place =
      record { start = start; end = end; pointer = rw (p, add_comm start); bytes = b ∙ slice_part start end table.now l; place = place }
