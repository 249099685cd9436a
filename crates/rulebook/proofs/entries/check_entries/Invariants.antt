-- `rulebook::entries::check_entries`: the walk comes to the lowest entry that is not in order or too high, or to the end.
use Prim.Native.Nat.{ℕ}
use mathlib.Core.Path.{◌≡◌}
use mathlib.Core.List.{List}
use lib.ListN.{length}
use Rattle.reply.specs.Bytes.{Bytes}
use Rattle.query.specs.Table.{entries}
use Rattle.rulebook.proofs.Walk.{Walked}
use Rattle.rulebook.proofs.entries.check_entries.Given as goal

-- where the walk stands before entry i
pub record Standing (rules : Bytes) (n : ℕ) (heights : List ℕ) (i : ℕ) : Type 0 where
  pub counted : n ≡ length (entries rules)
  pub room : length heights ≡ 256
  pub walked : Walked rules heights i

abbrev pub invariant-loop-i : goal.invariant-loop-i
invariant-loop-i l = Standing l.rules l.n l.heights l.i
