-- `bytes`: byte i has the eight bits of the set from 8 i on. The loop's invariant: the bytes passed are made.
use Prim.Native.Nat.{◌*◌}
use Rattle.sets.specs.Sets.{In}
use Rattle.sets.proofs.Words.{Made}
use Rattle.sets.proofs.bitmap.bytes.Given as goal

abbrev pub invariant-loop-i : goal.invariant-loop-i
invariant-loop-i l = Made 8 (In l.fn.set) l.initial.r l.r (8 * l.i)
