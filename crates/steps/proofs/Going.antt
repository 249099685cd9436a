-- A star goes on from one node after the other: from each that is in the set and a source, once. Assumes nothing.
use Prim.Native.Nat.{ℕ, ◌+◌, ◌*◌, ◌/◌, ◌%◌, ◌^◌, ◌<◌}
use native.Mathlib.Omega.{arith}
use mathlib.Core.Path.{◌≡◌}
use mathlib.Core.Logic.{◌↔◌, ◌⊎◌, inl, inr, ⊎_elim}
use mathlib.Core.List.{List}
use lib.ListN.{get_or}
use lib.Bits.{bit_and}
use mir.Syntax.{w64}
use Rattle.std.specs.Int.{bit_not}
use Rattle.std.specs.Prelude.{Some, None}
use Rattle.tree.specs.Tree.{Tree}
use Rattle.query.specs.Meaning.{Star, stop, step}
use Rattle.query.proofs.Closure.{star_keeps, star_append}
use Rattle.sets.specs.Bits.{digit}
use Rattle.sets.specs.Sets.{In, Holds, Image}
use Rattle.sets.proofs.Digits.{and_one, minus_one}
use Rattle.sets.proofs.Size.{dec_in, size_of, grown}
use Rattle.sets.proofs.Words.{in_word}
use Rattle.steps.specs.declared.axis.Axes.{Axes}
use Rattle.steps.specs.Axis.{AlongAny}
use Rattle.steps.specs.Added.{Added}
use Rattle.steps.proofs.Adding.{added_same}
use Rattle.steps.specs.Star.{Waits, WordWith, StepFrom, GoneOn}

-- the digits of a word that wait
pub waiting_word : (set sources gone : List ℕ) (w k : ℕ) → get_or gone w 0 < 2 ^ 64 → k < 64
    → (digit (bit_and (bit_and (get_or set w 0) (get_or sources w 0)) (bit_not w64 (get_or gone w 0))) k ≡ 1) ↔ Waits set sources gone (64 * w + k)
waiting_word set sources gone w k fits l =
    let m = in_word set w k l in
    let s = in_word sources w k l in
    let g = in_word gone w k l in
    let both = and_one (get_or set w 0) (get_or sources w 0) k in
    let rest = minus_one (bit_and (get_or set w 0) (get_or sources w 0)) (get_or gone w 0) k fits l in (
      λ d. let (x, out) = rest.0 d in let (y, z) = both.0 x in record { member = m.0 y; source = s.0 z; left = λ q. out (g.1 q) },
      λ h. rest.1 (both.1 (m.1 h.member, s.1 h.source), λ q. h.left (g.0 q)),
    )

-- where no word has a digit that waits, nothing waits
pub none_in_words : (P : ℕ → Type 0) → ((w k : ℕ) → w < 64 → k < 64 → ¬ P (64 * w + k)) → (k : ℕ) → k < 4096 → ¬ P k
none_in_words P none k l p =
    let at : k ≡ 64 * (k / 64) + k % 64 = omega arith in
    none (k / 64) (k % 64) (omega arith) (omega arith) (rw at at p)

-- from a source, every step along the axes counts
pub steps_from : {t : Tree} {axes : Axes} {sources set more : List ℕ} {i : ℕ} → In sources i → Added (AlongAny t axes i) set more
    → Added (StepFrom t axes sources i) set more
steps_from x = added_same (λ j. (λ l. record { source = x; leads = l }, λ s. s.leads))

module _ {R : ℕ → ℕ → Type 0} where
  -- at first nothing has been done
  pub not_gone : {set gone : List ℕ} → GoneOn R set gone set gone
  not_gone = record { kept = λ k x. x; reached = λ j x. (j, x, stop); still = λ k x. x; closed = λ i j x r. inl x }

  -- two goes are one
  pub gone_further : {set gone more after most last : List ℕ} → GoneOn R set gone more after → GoneOn R more after most last
      → GoneOn R set gone most last
  gone_further a b = record {
    kept = λ k x. b.kept k (a.kept k x);
    reached = λ j x.
        let (m, y, s) = b.reached j x in
        let (i, z, s') = a.reached m y in
        (i, z, star_append s' s);
    still = λ k x. b.still k (a.still k x);
    closed = λ i j x r. ⊎_elim (λ y. ⊎_elim inl (λ z. inr (b.kept j z)) (a.closed i j y r)) inr (b.closed i j x r);
  }

  -- from one node
  pub one_gone : {set gone more after : List ℕ} {i : ℕ} → In set i → Holds (λ k. In gone k ⊎ (i ≡ k)) after → Added (R i) set more
      → GoneOn R set gone more after
  one_gone {set} {gone} {more} {after} {i} x g add = record {
    kept = λ k y. (add.exact k).1 (inl y);
    reached = λ j y. ⊎_elim (λ z. (j, z, stop)) (λ r. (i, x, step r stop)) ((add.exact j).0 y);
    still = λ k y. (g.exact k).1 (inl y);
    closed = λ k j y r. ⊎_elim inl (λ e. inr ((add.exact j).1 (inr (rw e r)))) ((g.exact k).0 y);
  }

  -- where none waits that could lead on, the star is reached
  pub all_gone : {set none more after : List ℕ} → Holds (λ k. ⊥) none → GoneOn R set none more after → ((i j : ℕ) → In more i → R i j → In after i)
      → Image (Star R) set more
  all_gone {set} {none} {more} {after} empty g done = record {
    exact = λ j. (
      g.reached j,
      λ (i, x, s). star_keeps (In more) (λ a b y r. ⊎_elim (λ z. absurd ((empty.exact a).0 z)) (λ z. z) (g.closed a b (done a b y r) r)) (g.kept i x) s,
    );
  }

-- what has been gone on from grows by one that waited
pub gone_more : {gone after : List ℕ} {i : ℕ} → ((k : ℕ) → In gone k → In after k) → i < 4096 → ¬ In gone i → In after i
    → size_of gone < size_of after
gone_more {i = i} still low out x = grown still (λ same. out (same i low x))

-- and by those of a word, where one waited and none does any more
pub gone_word : {R : ℕ → ℕ → Type 0} {set sources gone more after : List ℕ} {w : ℕ} → WordWith (Waits set sources gone) (Some w)
    → GoneOn R set gone more after
    → ((k : ℕ) → k < 64 → ¬ Waits more sources after (64 * w + k)) → size_of gone < size_of after
gone_word {after = after} {w} (k, l, low, waits) g left =
    gone_more g.still (omega arith) waits.left
    (elim (dec_in after (64 * w + k)) [
      | yes x ↦ x
      | no out ↦ absurd (left k low (record { member = g.kept _ waits.member; source = waits.source; left = out }))
    ])

-- where no word has one that waits, all that may be gone on from has been
pub none_waits : {set sources gone : List ℕ} → WordWith (Waits set sources gone) None
    → (k : ℕ) → k < 4096 → In set k → In sources k → In gone k
none_waits {gone = gone} none k low x y =
    elim (dec_in gone k) [
      | yes z ↦ z
      | no out ↦ absurd (none k low (record { member = x; source = y; left = out }))
    ]
