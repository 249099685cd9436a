-- `joined`: where the first link has entries, one more entry joins the two; else the second link stands alone.
use Prim.Native.Nat.{◌+◌, ◌*◌, ◌≤◌}
use lib.ListN.{length}
use borrow.Author.Rules.{rules}
use Rattle.tokens.specs.Reading.{alone, both}
use Rattle.tokens.proofs.entry.joined.Goals as goal
use Rattle.tokens.proofs.entry.joined.Goals.{Then-from-left}

-- where there is something to join, there is room for the entry
room : (c : Then-from-left) → 6 * (c.args.right + 1) ≤ length c.args.table.now
room c = c.requires.1 c.if-from-left.true

pub returns-then-from-left : goal.returns-then-from-left
returns-then-from-left c =
    both c.if-from-left.true (rw (c.from-kind.ensures, c.kind_of.ensures) at c.put.ensures)

pub returns : goal.returns
returns c = alone (search rules)
