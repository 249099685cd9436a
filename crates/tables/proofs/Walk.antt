-- The walk over the entries of a table: what is known before entry i, and what each step of the walk comes to. Assumes nothing.
use Prim.Native.Nat.{ℕ, ◌+◌, ◌≤◌, ◌<◌}
use native.Mathlib.Omega.{arith}
use mathlib.Core.Path.{◌≡◌, sym, ◌∙◌}
use mathlib.Core.List.{List}
use lib.ListN.{length, get_or, set}
use lib.Seq.{get_or-set_same, get_or-set_other}
use borrow.Author.Count.{below_none, below_more}
use Rattle.reply.specs.Reply.{count, refused}
use Rattle.reply.specs.Bytes.{Bytes}
use Rattle.reply.proofs.Checking.{passes, fails}
use Rattle.query.specs.Table.{Entries, entries, entry_at, EntryRight, height, height_at}
use Rattle.query.specs.Fault.{Limits, EntryFits, malformed, too_high}
use Rattle.tables.specs.Promise.{EntriesChecked}
use Rattle.tables.proofs.Heights.{height_known}

-- a number that is noted in a list, behind those of the places before
pub noted : (f : ℕ → ℕ) (xs : List ℕ) {i v : ℕ} → ((k : ℕ) → k < i → get_or xs k 0 ≡ f k) → i < length xs → v ≡ f i
    → (k : ℕ) → k < i + 1 → get_or (set xs i v) k 0 ≡ f k
noted f xs {i} {v} before room here =
    below_more (λ k. get_or (set xs i v) k 0 ≡ f k) i (λ k l. get_or-set_other xs i k v 0 (omega arith) ∙ before k l)
    (get_or-set_same xs i v 0 room ∙ here)

-- the first i entries are in order and at most `most` high, and their heights are known
pub record Walked (es : Entries) (most : ℕ) (heights : List ℕ) (i : ℕ) : Type 0 where
  pub right : (k : ℕ) → k < i → EntryRight es k
  pub low : (k : ℕ) → k < i → height_at es k ≤ most
  pub known : (k : ℕ) → k < i → get_or heights k 0 ≡ height_at es k

-- before the first entry nothing is known
pub walk_starts : (es : Entries) (most : ℕ) (heights : List ℕ) → Walked es most heights 0
walk_starts es most heights = record { right = below_none _; low = below_none _; known = below_none _ }

module _ {es : Entries} {most : ℕ} {heights : List ℕ} {i : ℕ} (walked : Walked es most heights i) (within : i < length es)
    (right : EntryRight es i) where
  -- the height of the entry that the walk has come to
  pub height_here : (below : ℕ) → below + 1 ≡ height heights (entry_at es i) → height_at es i ≡ below + 1
  height_here below found = height_known es i heights walked.known within right ∙ sym found

  -- an entry in order that is not too high is walked over
  pub walk_on : {below : ℕ} → below + 1 ≡ height heights (entry_at es i) → below < most → i < length heights
      → Walked es most (set heights i (below + 1)) (i + 1)
  walk_on {below} found low room =
      record {
        right = below_more (λ k. EntryRight es k) i walked.right right;
        low = below_more (λ k. height_at es k ≤ most) i walked.low (omega (arith, height_here below found));
        known = noted (height_at es) heights walked.known room (sym (height_here below found));
      }

module _ (b : Bytes) {most : ℕ} {heights : List ℕ} {i : ℕ} (walked : Walked (entries b) most heights i) (limit : Limits)
    (same : limit.height ≡ most) where
  fits : (k : ℕ) → k < i → EntryFits limit b k
  fits k l = record { right = walked.right k l; low = omega (arith, walked.low k l) }

  -- the walk ends behind the last entry
  pub walk_ends : {n : ℕ} → length (entries b) ≤ i → n ≡ length (entries b) → EntriesChecked limit b (count n)
  walk_ends end e = passes (λ k l. fits k (omega arith)) e

  -- 8: an entry is not in order
  pub walk_malformed : i < length (entries b) → ¬ EntryRight (entries b) i → EntriesChecked limit b (refused 8 i)
  walk_malformed within wrong = fails (record { within = within; faulty = malformed wrong; lowest = fits })

  -- 9: an entry in order is too high
  pub walk_high : {below : ℕ} → i < length (entries b) → EntryRight (entries b) i → below + 1 ≡ height heights (entry_at (entries b) i)
      → most ≤ below → EntriesChecked limit b (refused 9 i)
  walk_high {below} within right found high =
      fails (record {
        within = within;
        faulty = too_high right (omega (arith, height_here walked within right below found));
        lowest = fits;
      })
