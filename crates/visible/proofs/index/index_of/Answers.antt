-- `index_of`. The loop's invariant: the records passed are in the index.
use native.Mathlib.Omega.{arith}
use Prim.Native.Nat.{ℕ}
use mathlib.Core.Path.{sym}
use lib.ListN.{length-set, length-replicate}
use Rattle.std.specs.Prelude.{Option, None}
use Rattle.visible.specs.Index.{HasPair}
use Rattle.visible.proofs.Indexing.{index_none, index_more}
use Rattle.visible.proofs.index.index_of.Goals as goal

pub loop-r-init : goal.loop-r-init
loop-r-init c = record { size = length-replicate {A = Option ℕ} 4225 None; so_far = index_none 4225 }

pub loop-r-preserved : goal.loop-r-preserved
loop-r-preserved c =
    let read = c.record_at-own.ensures in
    let (parent, child) = c.requires.0 c.loop-r.r (omega arith) in
    let has : HasPair _ _ _ _ = record { parent = sym read.parent; child = sym read.child } in
    record {
      size = simp length-set c.loop-r.invariant.size;
      so_far = rw c.pair_of.ensures
          (index_more c.loop-r.invariant.size (rw read.parent parent) (rw read.child child) has c.first_named.ensures c.loop-r.invariant.so_far);
    }
