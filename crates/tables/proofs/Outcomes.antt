-- What the walk over the entries means for a query table and for a filter table. Assumes nothing.
use Prim.Native.Nat.{ℕ, ◌-◌, ◌≤◌, ◌<◌}
use native.Mathlib.Omega.{arith}
use mathlib.Core.Path.{◌≡◌, ap}
use lib.ListN.{length}
use Rattle.reply.specs.declared.Refusal.{Refusal}
use Rattle.std.specs.Prelude.{Result, Ok, Err}
use Rattle.reply.specs.Reply.{Said, count, refused, said}
use Rattle.reply.specs.Bytes.{Bytes, Whole}
use Rattle.reply.proofs.Checking.{passes, fails, counted, faulted, passed_up}
use Rattle.query.specs.Kind.{path}
use Rattle.query.specs.Table.{entries, HasSort}
use Rattle.query.specs.Fault.{Limits, filters, EntryFits, QueryLength, last, QueryFault, no_path, FilterFault}
use Rattle.query.proofs.Tables.{entries_length}
use Rattle.tables.specs.Promise.{EntriesChecked, QueryChecked, FilterChecked}

-- a table within a limit has at most as many entries
pub entries_within : {limit : ℕ} {b : Bytes} → Whole 6 limit b → length (entries b) ≤ limit
entries_within {b = b} whole = omega (arith, entries_length b, whole.most)

-- 12: the length is wrong
pub query_length : {limit : Limits} {b : Bytes} → ¬ QueryLength limit b → QueryChecked limit b (refused 12 0)
query_length wrong = fails (QueryFault.bad_length wrong)

module _ {limit : Limits} {b : Bytes} (size : QueryLength limit b) (reply : Result ℕ Refusal) (walked : EntriesChecked limit b (said reply)) where
  -- 8, 9: what the walk refuses
  pub query_entry : {r : Refusal} {up : Result ℕ Refusal} → reply ≡ Err r → up ≡ Err r → QueryChecked limit b (said up)
  query_entry e f = passed_up (λ n p. QueryFault.bad_entry size) e f walked

  module _ (n : ℕ) (e : reply ≡ Ok n) where
    -- every entry fits, and the count is the number of entries
    all_fit : ((i : ℕ) → i < length (entries b) → EntryFits limit b i) × (n ≡ length (entries b))
    all_fit = counted (rw e at walked)

    -- a query has a last entry
    pub query_some : 1 ≤ n
    query_some = omega (arith, all_fit.1, entries_length b, size.some, size.size.multiple)

    -- the place of the last entry
    here : n - 1 ≡ last limit b
    unfolding last
    here = ap (λ (m : ℕ). m - 1) all_fit.1

    -- the last entry is a path
    pub query_path : HasSort (entries b) (n - 1) path → QueryChecked limit b (count n)
    query_path sort = passes (record { size = size; entry = all_fit.0; path = rw here at sort }) all_fit.1

    -- 12: the last entry is no path
    pub query_no_path : ¬ HasSort (entries b) (n - 1) path → QueryChecked limit b (refused 12 (n - 1))
    query_no_path sort = rw here (fails (no_path size all_fit.0 (rw here at sort)))

-- 7: the length is wrong
pub filter_length : {b : Bytes} → ¬ Whole 6 filters.entries b → FilterChecked b (refused 7 0)
filter_length wrong = fails (FilterFault.bad_length wrong)

-- 8, 9, and the count: what the walk says
pub filter_entries : {b : Bytes} → Whole 6 filters.entries b → (s : Said) → EntriesChecked filters b s → FilterChecked b s
filter_entries size (count n) walked = let (fits, e) = counted walked in passes (record { size = size; entry = fits }) e
filter_entries size (refused n p) walked = fails (FilterFault.bad_entry size (faulted walked))
