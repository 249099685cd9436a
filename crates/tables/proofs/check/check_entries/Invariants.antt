-- `tables::check::check_entries`: the walk comes to the lowest entry that is not in order or too high, or to the end.
use Prim.Native.Nat.{ℕ}
use mathlib.Core.Path.{◌≡◌}
use mathlib.Core.List.{List}
use lib.ListN.{length}
use Rattle.reply.specs.Bytes.{Bytes}
use Rattle.query.specs.Table.{entries}
use Rattle.tables.proofs.Walk.{Walked}
use Rattle.tables.proofs.check.check_entries.Given as goal

-- where the walk stands before entry i
pub record Standing (table : Bytes) (height n : ℕ) (heights : List ℕ) (i : ℕ) : Type 0 where
  pub counted : n ≡ length (entries table)
  pub room : length heights ≡ 1024
  pub walked : Walked (entries table) height heights i

abbrev pub invariant-loop-i : goal.invariant-loop-i
invariant-loop-i l = Standing l.table l.height l.n l.heights l.i
