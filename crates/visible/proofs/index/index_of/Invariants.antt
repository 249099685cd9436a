-- `index_of`. The loop's invariant: the records passed are in the index.
use mathlib.Core.Path.{◌≡◌}
use lib.ListN.{length}
use Rattle.visible.specs.Index.{IndexTo}
use Rattle.visible.proofs.index.index_of.Given as goal

abbrev pub invariant-loop-r : goal.invariant-loop-r
invariant-loop-r l = record { size : length l.index ≡ 4225; so_far : IndexTo l.annotation l.r l.index }
