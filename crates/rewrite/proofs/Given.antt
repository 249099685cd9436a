-- What call 5 counts in its room is a table that may be answered on a roll, and whose query is faithful to hers. Assumes nothing.
use Prim.Native.Nat.{ℕ, ◌*◌, ◌≤◌}
use native.Mathlib.Omega.{arith}
use mathlib.Core.Path.{◌≡◌, ap, ◌∙◌}
use mathlib.Core.List.{◌++◌}
use lib.ListN.{length, take, length-append}
use lib.Seq.{take_at}
use Rattle.reply.specs.Reply.{count}
use Rattle.reply.specs.Bytes.{Bytes}
use Rattle.reply.specs.Outcome.{done}
use Rattle.query.specs.Table.{entries, query_of}
use Rattle.query.specs.Fault.{answered, Query}
use Rattle.query.proofs.Tables.{entries_length}
use Rattle.rewrite.specs.Promise.{Faithful, Rewritten, RewriteGiven}

module _ (annotation filters query before : Bytes) (n : ℕ) (after : Bytes) where
  module _ (given : Rewritten annotation filters query before n after) where
    -- the entries counted are the rewritten table
    table_bytes : length (filters ++ given.behind) ≡ 6 * n
    table_bytes = omega (arith, given.count, entries_length (filters ++ given.behind), given.accepted.size.size.multiple)

    pub table_front : take (6 * n) after ≡ filters ++ given.behind
    table_front = ap (take (6 * n)) given.written.bytes ∙ take_at _ _ (6 * n) table_bytes

    -- there are 1,024 at most, and they stand in the room
    pub table_size : (6 * n ≤ 6144) × (6 * n ≤ length after)
    table_size =
        let whole = ap length given.written.bytes ∙ length-append (filters ++ given.behind) _ in
        (omega (arith, table_bytes, given.accepted.size.size.most), omega (arith, table_bytes))

  -- they are a query that may be answered, faithful to hers
  abbrev pub Answerable : Type 0
  Answerable = Query answered (take (6 * n) after) × Faithful annotation filters (query_of (entries (take (6 * n) after))) (query_of (entries query))

  pub table_written : Rewritten annotation filters query before n after → Answerable
  table_written given = rw (table_front given) (given.accepted, given.faithful)

  pub table_given : RewriteGiven annotation filters query before (count n) after → Answerable
  unfolding RewriteGiven
  table_given (done room right given) = table_written given
