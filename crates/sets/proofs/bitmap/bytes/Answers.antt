-- `bytes`: byte i has the eight bits of the set from 8 i on. The loop's invariant: the bytes of the words passed are made.
use Prim.Native.Nat.{ℕ, ◌+◌, ◌-◌, ◌*◌}
use native.Mathlib.Omega.{arith}
use mathlib.Core.Path.{◌≡◌, refl, ap, ◌∙◌}
use mathlib.Core.List.{List}
use lib.ListN.{length}
use Rattle.sets.proofs.Words.{none_made, bytes_made}
use Rattle.sets.proofs.Parts.{part_made, word_byte}
use Rattle.sets.proofs.bitmap.bytes.Goals as goal

pub loop-i-init : goal.loop-i-init
loop-i-init c = none_made _

pub loop-i-preserved : goal.loop-i-preserved
loop-i-preserved c =
    let i = c.loop-i.i in
    let n : ℕ = 8 * i + 8 - 8 * i in
    let written = c.copy_from_slice.ensures.after ∙ c.to_le_bytes.ensures in
    let next : 8 * (i + 1) ≡ 8 * i + n = omega arith in
    rw next (part_made (8 * i) n _ c.loop-i.invariant (ap (λ (l : List ℕ). length l) written ∙ omega arith) (omega arith)
    (λ k l. rw written (word_byte c.args.set i k (omega arith))))

pub returns : goal.returns
returns c = bytes_made c.loop-i.invariant refl (omega arith)
