-- The annotation and the filter table of pairs of labels with their filters' texts, computed. Assumes nothing.
use Prim.Native.Nat.{ℕ, ◌+◌, ◌-◌}
use mathlib.Core.Path.{◌≡◌, refl, subst₂}
use mathlib.Core.Bool.{Bool, false, ◌&&◌}
use mathlib.Core.List.{List, [], ◌∷◌, ◌++◌, append-nil}
use lib.Dec.{T}
use lib.ListN.{length}
use mir.Facts.{and_yes}
use Rattle.reply.specs.Bytes.{Bytes, two_bytes}
use Rattle.query.specs.Syntax.{Filter}
use Rattle.query.specs.Table.{entry_bytes}
use Rattle.text.specs.Grammar.{FilterText}
use Rattle.text.specs.Written.{filter_entries}
use Rattle.derivation.proofs.Rules.{got, stopped, FilterReads}
use Rattle.derivation.proofs.Sound.{span, heard}
use Rattle.derivation.proofs.Deciding as reading
use Rattle.derivation.proofs.Deciding.{Reading, no_steps, read_filter}
use Rattle.cases.specs.Cases.{Pair, Listed, none, one}
use Rattle.cases.proofs.Tests.{same_list, same_numbers, same_numbers_lem}

-- the bytes that pairs come to behind n entries, or nothing where a text is no filter's
pub data Listing (n : ℕ) (pairs : List Pair) : Type 0 where
  no_filter : Listing n pairs
  bytes : (rs es : Bytes) → Listed n pairs rs es → Listing n pairs

-- a text that is read whole is the filter's
pub filter_text : {text : Bytes} {f : Filter} → FilterReads 32 0 text (got f []) → FilterText text f
filter_text d = let s = span (heard d) in rw (s.splits, append-nil) s.text

-- one more pair in front, whose filter is f
in_front : {n m : ℕ} (x : Pair) {more : List Pair} (f : Filter) → FilterText x.filter f → m ≡ n + length (filter_entries n f)
    → Listing m more → Listing n (x ∷ more)
in_front x f t e no_filter = no_filter
in_front {n} {m} x f t e (bytes rs es l) =
    bytes (x.parent ∷ x.child ∷ two_bytes (m - 1) ++ 0 ∷ 0 ∷ rs) (entry_bytes (filter_entries n f) ++ es) (one t e l)

-- by what the filter's text is read as
behind_filter : (n : ℕ) (x : Pair) (more : List Pair) → ((m : ℕ) → Listing m more) → Reading (FilterReads 32 0 x.filter)
    → Listing n (x ∷ more)
behind_filter n x more rest no_steps = no_filter
behind_filter n x more rest (reading.read (got f []) d) = in_front x f (filter_text d) refl (rest (n + length (filter_entries n f)))
behind_filter n x more rest (reading.read (got f (c ∷ b)) d) = no_filter
behind_filter n x more rest (reading.read (stopped s b) d) = no_filter

list : (pairs : List Pair) (n : ℕ) → Listing n pairs
list [] n = bytes [] [] none
list (x ∷ more) n = behind_filter n x more (list more) (read_filter 32 x.filter)

-- whether these are the bytes
same_bytes : {n : ℕ} {pairs : List Pair} → Bytes → Bytes → Listing n pairs → Bool
same_bytes rs es no_filter = false
same_bytes rs es (bytes rs' es' l) = same_numbers rs' rs && same_numbers es' es

same_bytes_lem : {n : ℕ} {pairs : List Pair} (rs es : Bytes) (l : Listing n pairs) → T (same_bytes rs es l) → Listed n pairs rs es
unfolding same_bytes
same_bytes_lem rs es no_filter h = absurd h
same_bytes_lem {n} {pairs} rs es (bytes rs' es' l) h =
    let (x, y) = and_yes (same_numbers rs' rs) (same_numbers es' es) h in
    subst₂ (Listed n pairs) (same_numbers_lem rs' rs x) (same_numbers_lem es' es y) l

module _ (pairs : List Pair) (rs es : Bytes) where
  unfoldable pub is_listed : Bool
  unfolding same_bytes list behind_filter in_front read_filter same_list
  is_listed = same_bytes rs es (list pairs 0)

  pub is_listed_lem : T is_listed → Listed 0 pairs rs es
  unfolding is_listed
  is_listed_lem = same_bytes_lem rs es (list pairs 0)
