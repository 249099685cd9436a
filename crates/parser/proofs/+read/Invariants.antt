-- The readers of paths and filters, which call each other. The measure of each is 16 for each byte that is not read, and a rank among those
-- that call each other at one place; and what their loops keep.
use Prim.Native.Nat.{ℕ, ◌+◌, ◌-◌, ◌*◌}
use mathlib.Core.Path.{◌≡◌}
use mathlib.Core.List.{List}
use lib.ListN.{length}
use Rattle.reply.specs.Bytes.{Bytes}
use Rattle.derivation.proofs.Rules.{StarsRead}
use Rattle.tables.specs.declared.kinds.Sort.{Sort}
use Rattle.tables.specs.declared.kinds.Sort.TheVariants as sort
use Rattle.tokens.specs.Reading.{Follows, items, terms}
use Rattle.tokens.proofs.Chains.{Going}
use Rattle.tokens.proofs.Begun.{Standing}
use Rattle.parser.proofs.+read.Given as goal

-- the bytes of a text that are not read, from a place on, and a rank
abbrev unread : List ℕ → ℕ → ℕ → ℕ
unread text at rank = 16 * (length text - at) + rank

-- the rank of the links of a path and of a filter
abbrev pub rank : Sort → ℕ
rank sort.Path = 3
rank sort.Filter = 10

abbrev pub decreases-bracketed : goal.decreases-bracketed
decreases-bracketed l = unread l.text.now l.from.at 0

abbrev pub decreases-atom : goal.decreases-atom
decreases-atom l = unread l.text.now l.from.at 1

abbrev pub decreases-item : goal.decreases-item
decreases-item l = unread l.text.now l.from.at 2

abbrev pub decreases-link : goal.decreases-link
decreases-link l = unread l.text.now l.from.at (rank l.sort)

abbrev pub decreases-chained : goal.decreases-chained
decreases-chained l = unread l.text.now l.from.at (rank l.of + 1)

abbrev pub decreases-path : goal.decreases-path
decreases-path l = unread l.text.now l.at 7

abbrev pub decreases-plain : goal.decreases-plain
decreases-plain l = unread l.text.now l.from.at 8

abbrev pub decreases-term : goal.decreases-term
decreases-term l = unread l.text.now l.from.at 9

abbrev pub decreases-filter : goal.decreases-filter
decreases-filter l = unread l.text.now l.at 13

-- a turn of `chained` reads a link of the inner chain
abbrev pub invariant-chained-loop-read : goal.invariant-chained-loop-read
invariant-chained-loop-read l =
    (length l.table ≡ length l.initial.table) × Standing l.of l.depth l.text l.from.at l.initial.table l.from.count l.next.at l.begun l.next.count l.table

abbrev pub decreases-chained-loop-read : goal.decreases-chained-loop-read
decreases-chained-loop-read l = length l.text - l.next.at

-- a turn of `item` adds one star to the atom that was read
abbrev pub invariant-item-loop-table : goal.invariant-item-loop-table
invariant-item-loop-table l =
    (length l.table ≡ length l.initial.table)
    × ((before : Bytes) → Going items StarsRead l.depth l.text l.fn.from.at before l.fn.from.count l.initial.read.at l.initial.read.count l.initial.table
    → Going items StarsRead l.depth l.text l.fn.from.at before l.fn.from.count l.read.at l.read.count l.table)

abbrev pub decreases-item-loop-table : goal.decreases-item-loop-table
decreases-item-loop-table l = length l.text - l.read.at

-- in `term`, what is answered for the place where the loop begins, is for the place that as many `!` in front of it are counted back to
abbrev pub invariant-term-loop : goal.invariant-term-loop
invariant-term-loop l =
    (length l.table ≡ length l.initial.table)
    × ((before : Bytes) (place : ℕ) → place + l.counter ≡ l.fn.from.at + l.end
    → Follows terms l.depth l.text l.end before l.fn.from.count l.initial.answer l.initial.table
    → Follows terms l.depth l.text place before l.fn.from.count l.answer l.table)
