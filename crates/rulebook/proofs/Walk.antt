-- Records that are looked at one by one, and the walk over the entries. Assumes nothing.
use Prim.Native.Nat.{ℕ, ◌+◌, ◌≤◌, ◌<◌}
use native.Mathlib.Omega.{arith}
use mathlib.Core.Path.{◌≡◌}
use mathlib.Core.List.{List}
use lib.ListN.{length, set}
use borrow.Author.Count.{below_more}
use Rattle.reply.specs.Reply.{Said, count, refused}
use Rattle.reply.specs.Bytes.{Bytes}
use Rattle.reply.proofs.Checking.{passes, fails}
use Rattle.query.specs.Table.{entries}
use Rattle.tables.proofs.Walk.{noted}
use Rattle.rules.specs.Table.{EntryRight, expression_at, height}
use Rattle.rules.specs.Rules.{malformed, EntryFits}
use Rattle.rulebook.specs.Rulebook.{HeightsKnown, EachChecked}

-- What is said of records of which the first i fit.
module _ {Fits : ℕ → Type 0} {size i : ℕ} (before : (k : ℕ) → k < i → Fits k) where
  -- there are no more
  pub all_fit : {n : ℕ} → size ≤ i → n ≡ size → EachChecked Fits size (count n)
  all_fit end e = passes (λ k l. before k (omega arith)) e

  -- 20: the next one does not fit
  pub misfit : {s : Said} → i < size → ¬ Fits i → s ≡ refused 20 i → EachChecked Fits size s
  misfit within wrong e = rw e (fails (record { within = within; faulty = malformed wrong; lowest = before }))

-- the first i entries fit, and their heights are known
pub record Walked (rules : Bytes) (heights : List ℕ) (i : ℕ) : Type 0 where
  pub fits : (k : ℕ) → k < i → EntryFits rules k
  pub known : HeightsKnown (entries rules) heights i

-- an entry in order that is not too high is walked over
pub walk_on : {rules : Bytes} {heights : List ℕ} {i below : ℕ} → Walked rules heights i → EntryRight (entries rules) i
    → below + 1 ≡ height (expression_at (entries rules) i) → below < 32 → i < length heights
    → Walked rules (set heights i (below + 1)) (i + 1)
walk_on {rules} {heights} {i} walked right found low room =
    record {
      fits = below_more (EntryFits rules) i walked.fits (record { right = right; low = omega arith });
      known = noted (λ k. height (expression_at (entries rules) k)) heights walked.known room found;
    }
