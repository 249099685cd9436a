-- What an entry is found to be, and the places that are asked and reached. Assumes nothing.
use Prim.Native.Nat.{ℕ, ◌+◌, ◌*◌, ◌<◌}
use native.Mathlib.Omega.{arith}
use mathlib.Core.Path.{◌≡◌, refl, sym, subst}
use mathlib.Core.Logic.Iff
use mathlib.Core.Logic.{◌↔◌, ◌⊎◌, inl, inr, ⊎_elim, ⊎_map}
use mathlib.Core.List.{List}
use lib.ListN.{length}
use Rattle.reply.specs.Bytes.{Bytes}
use Rattle.std.specs.Prelude.{Option, Some, None, MatchOption, IsSome}
use Rattle.std.proofs.Math.Logic.{∥∥₁_elim}
use Rattle.query.specs.Table.{Entries, entries}
use Rattle.sets.specs.Sets.{In, Holds, Image, Inside}
use Rattle.rules.specs.Language.{Expression, Word, InLanguage, then, either}
use Rattle.rules.specs.declared.Rule.{Rule}
use Rattle.rules.specs.Table.{EntryRight}
use Rattle.rules.specs.Read.{Is}
use Rattle.matching.specs.Spans.{Spans, Used}
use Rattle.matching.specs.Settled.{Asked, Kept, Passed}
use Rattle.matching.proofs.Spanning.{spans_then, spans_either, spans_whole}

-- ---- what an entry is

-- one in order is found to be so
pub found : {es : Entries} {i : ℕ} (rule : Option Rule) → ∥ EntryRight es i ∥₁ → MatchOption rule (¬ EntryRight es i) (λ r. Is es i r)
    → IsSome rule
found (Some r) right is = refl
found None right wrong = absurd (∥∥₁_elim right (λ x. absurd x) wrong)

-- ---- sets of places

-- an entry is asked of places in the word
pub ask_of : {rules : Bytes} {e : ℕ} {w : Word} {places : List ℕ} → e < length (entries rules) → Inside (length w + 1) places → Asked rules e w places
ask_of l inside = record { entry = l; places = inside }

module _ {w : Word} where
  -- every place that is reached is in the word
  pub led_inside : {x : Expression} {kept kept' : Kept} {set r : List ℕ} → Passed x w kept set kept' r → Inside (length w + 1) r
  led_inside f q x = let (p, y, s) = f.led q x in omega (arith, s.within)

  -- places in the word are in the words of a set that hold them all
  pub in_front : {n : ℕ} {set : List ℕ} → Used w n → Inside (length w + 1) set → Inside (64 * n) set
  in_front used inside k x = omega (arith, used.enough, inside k x)

  -- and there is a place in the set for each
  pub in_set : {n : ℕ} {set : List ℕ} → Used w n → Inside (length w + 1) set → Inside 4096 set
  in_set used inside k x = omega (arith, used.enough, used.most, inside k x)

-- ---- where each kind leads from a set, for what is asked once

module _ {w : Word} {set : List ℕ} where
  pub once_then : {a b : Expression} {half r : List ℕ} → Image (Spans a w) set half → Image (Spans b w) half r
      → Image (Spans (then a b) w) set r
  once_then f g = record {
    exact = λ q. (
      λ x. let (k, y, t) = (g.exact q).0 x in let (p, z, s) = (f.exact k).0 y in (p, z, (spans_then p q).1 (k, s, t)),
      λ (p, x, s). let (k, t, u) = (spans_then p q).0 s in (g.exact q).1 (k, (f.exact k).1 (p, x, t), u),
    );
  }

  pub once_either : {a b : Expression} {first second r : List ℕ} → Image (Spans a w) set first → Image (Spans b w) set second
      → Holds (λ k. In first k ⊎ In second k) r → Image (Spans (either a b) w) set r
  once_either f g all = record {
    exact = λ q. (
      λ x. ⊎_elim (λ y. let (p, z, s) = (f.exact q).0 y in (p, z, (spans_either p q).1 (inl s)))
          (λ y. let (p, z, s) = (g.exact q).0 y in (p, z, (spans_either p q).1 (inr s)))
          ((all.exact q).0 x),
      λ (p, x, s). (all.exact q).1 (⊎_map (λ t. (f.exact q).1 (p, x, t)) (λ t. (g.exact q).1 (p, x, t)) ((spans_either p q).0 s)),
    );
  }

  -- either of one and the same is that one
  pub once_same : {a b : Expression} {r : List ℕ} → a ≡ b → Image (Spans a w) set r → Image (Spans (either a b) w) set r
  once_same e f = record {
    exact = λ q. (
      λ x. let (p, y, s) = (f.exact q).0 x in (p, y, (spans_either p q).1 (inl s)),
      λ (p, x, s). (f.exact q).1 (p, x, ⊎_elim (λ t. t) (λ t. rw e t) ((spans_either p q).0 s)),
    );
  }

-- ---- the place before the word

-- it is put into the empty set
pub only_first : {none set : List ℕ} → Holds (λ k. ⊥) none → Holds (λ k. In none k ⊎ (0 ≡ k)) set → Holds (λ k. 0 ≡ k) set
only_first none added = record { exact = λ k. Iff.trans (added.exact k) (⊎_elim (λ x. absurd ((none.exact k).0 x)) (λ e. e), inr) }

-- from there the place behind the word is reached by a word of the language
pub from_first : {x : Expression} {w : Word} {set r : List ℕ} → Holds (λ k. 0 ≡ k) set → Image (Spans x w) set r
    → In r (length w) ↔ InLanguage x w
from_first {x} {w} first a = (
  λ m.
      let (p, y, s) = (a.exact (length w)).0 m in
      (spans_whole w).0 (subst (λ (k : ℕ). Spans x w k (length w)) (sym ((first.exact p).0 y)) s),
  λ m. (a.exact (length w)).1 (0, (first.exact 0).1 refl, (spans_whole w).1 m),
)
