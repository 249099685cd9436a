-- A query table and a filter table have at most one fault. Assumes nothing.
use Prim.Native.Nat.{ℕ, ◌<◌}
use native.Mathlib.Omega.{arith}
use mathlib.Core.Path.{◌≡◌, refl}
use lib.ListN.{length}
use Rattle.reply.specs.Bytes.{Bytes}
use Rattle.reply.specs.Outcome.{Lowest}
use Rattle.reply.proofs.Unique.{OneFault, Wrong, lowest_one}
use Rattle.query.specs.Table.{entries}
use Rattle.query.specs.Fault.{Limits, EntryFits, EntryFault, malformed, too_high, Query, QueryFault, no_path, FilterTable, FilterFault}

module _ (limit : Limits) (b : Bytes) where
  entry_wrong : (n i : ℕ) → EntryFault limit b n i → ¬ EntryFits limit b i
  entry_wrong n i (malformed m) e = m e.right
  entry_wrong n i (too_high r h) e = omega (arith, e.low)

  entry_one : (n m i : ℕ) → EntryFault limit b n i → EntryFault limit b m i → n ≡ m
  entry_one n m i (malformed x) (malformed y) = refl
  entry_one n m i (malformed x) (too_high r h) = absurd (x r)
  entry_one n m i (too_high r h) (malformed y) = absurd (y r)
  entry_one n m i (too_high r h) (too_high s k) = refl

  -- the lowest bad entry is one entry, and a table with one is not in order
  entries_one : OneFault (Lowest (EntryFits limit b) (EntryFault limit b) (length (entries b)))
  entries_one = lowest_one entry_wrong entry_one

  entries_wrong : Wrong ((i : ℕ) → i < length (entries b) → EntryFits limit b i) (Lowest (EntryFits limit b) (EntryFault limit b) (length (entries b)))
  entries_wrong n i f all = entry_wrong n i f.faulty (all i f.within)

  pub query_wrong : Wrong (Query limit b) (QueryFault limit b)
  query_wrong n p (QueryFault.bad_length l) q = l q.size
  query_wrong n p (QueryFault.bad_entry l f) q = entries_wrong n p f q.entry
  query_wrong n p (no_path l a h) q = h q.path

  pub query_one : OneFault (QueryFault limit b)
  query_one n m p q (QueryFault.bad_length l) (QueryFault.bad_length k) = (refl, refl)
  query_one n m p q (QueryFault.bad_length l) (QueryFault.bad_entry k f) = absurd (l k)
  query_one n m p q (QueryFault.bad_length l) (no_path k a h) = absurd (l k)
  query_one n m p q (QueryFault.bad_entry k f) (QueryFault.bad_length l) = absurd (l k)
  query_one n m p q (QueryFault.bad_entry k f) (QueryFault.bad_entry l g) = entries_one n m p q f g
  query_one n m p q (QueryFault.bad_entry k f) (no_path l a h) = absurd (entries_wrong n p f a)
  query_one n m p q (no_path k a h) (QueryFault.bad_length l) = absurd (l k)
  query_one n m p q (no_path k a h) (QueryFault.bad_entry l f) = absurd (entries_wrong m q f a)
  query_one n m p q (no_path k a h) (no_path l c d) = (refl, refl)

module _ (b : Bytes) where
  pub filter_wrong : Wrong (FilterTable b) (FilterFault b)
  filter_wrong n p (FilterFault.bad_length l) t = l t.size
  filter_wrong n p (FilterFault.bad_entry l f) t = entries_wrong _ b n p f t.entry

  pub filter_one : OneFault (FilterFault b)
  filter_one n m p q (FilterFault.bad_length l) (FilterFault.bad_length k) = (refl, refl)
  filter_one n m p q (FilterFault.bad_length l) (FilterFault.bad_entry k f) = absurd (l k)
  filter_one n m p q (FilterFault.bad_entry k f) (FilterFault.bad_length l) = absurd (l k)
  filter_one n m p q (FilterFault.bad_entry k f) (FilterFault.bad_entry l g) = entries_one _ b n m p q f g
