-- What is kept of stars says what was asked and found, and asking an expression of a set keeps it true, kind by kind. Assumes nothing.
use Prim.Native.Nat.{ℕ, zero, suc, ◌+◌, min}
use native.Mathlib.Omega.{arith}
use mathlib.Core.Path.{◌≡◌, refl, sym, ap, subst, ◌∙◌}
use mathlib.Core.Logic.{◌↔◌, ◌⊎◌, inl, inr, ⊎_elim, ⊎_map}
use mathlib.Core.Bool.{false}
use mathlib.Core.List.{List, [], ◌∷◌, ◌++◌}
use lib.Dec.{T}
use lib.ListN.{length, set, take, drop, length-append, length-take, length-drop}
use lib.Seq.{take-append_seam, drop-append_seam, get_or-take, get_or-drop}
use Rattle.tree.proofs.Tests.{passes, or_test}
use Rattle.query.proofs.Closure.{star_keeps}
use Rattle.sets.specs.Sets.{In, Holds, Image, Inside}
use Rattle.sets.proofs.Size.{in_test}
use Rattle.rules.specs.Language.{Expression, empty, one, then, either, star, Word}
use Rattle.matching.specs.Spans.{Spans}
use Rattle.matching.specs.Settled.{Places, members, and_those, Kept, stars, share, Passed, Cleared}
use Rattle.matching.specs.Settled.{Settled, nothing, one_label, in_turn, one_of_two, same_twice, alone, gone_on}
use Rattle.matching.proofs.Spanning.{spans_empty, spans_then, spans_either, spans_star}

-- ---- places

pub in_members : (set : List ℕ) (k : ℕ) → T (members set k) ↔ In set k
unfolding members
in_members set k = (in_test set k).exact

pub in_those : (A : Places) (set : List ℕ) (k : ℕ) → T (and_those A set k) ↔ (T (A k) ⊎ In set k)
unfolding and_those members
in_those A set k = (or_test (passes (A k)) (in_test set k)).exact

abbrev Among : Places → Places → Type 0
Among A B = (k : ℕ) → T (A k) → T (B k)

-- a set without members adds none
none_more : (A : Places) (set : List ℕ) → ((k : ℕ) → ¬ In set k) → Among (and_those A set) A
none_more A set none k x = ⊎_elim (λ y. y) (λ y. absurd (none k y)) ((in_those A set k).0 x)

-- a set adds no fewer than another, or one of which some were there
and_more : (A : Places) (set more : List ℕ) → ((k : ℕ) → In set k → T (A k) ⊎ In more k) → Among (and_those A set) (and_those A more)
and_more A set more joined k x = (in_those A more k).1 (⊎_elim inl (joined k) ((in_those A set k).0 x))

-- ---- sets without members

pub one_cleared : {none : List ℕ} → Holds (λ k. ⊥) none → Cleared (none ∷ [])
one_cleared none zero l k x = (none.exact k).0 x
one_cleared none (suc i) l k x = absurd (omega (arith, l))

cleared_front : (kept : Kept) (n : ℕ) → Cleared kept → Cleared (take n kept)
cleared_front kept n none i l k x =
    none i (omega (arith, length-take n kept)) k
    (subst (λ (set : List ℕ). In set k) (get_or-take n kept i [] (omega (arith, length-take n kept))) x)

cleared_back : (kept : Kept) (n : ℕ) → Cleared kept → Cleared (drop n kept)
cleared_back kept n none i l k x =
    none (n + i) (omega (arith, length-drop n kept)) k (subst (λ (set : List ℕ). In set k) (get_or-drop n kept i []) x)

-- ---- what is settled

module _ {w : Word} where
  -- it is for fewer places, and with more found
  pub widen : {x : Expression} {kept : Kept} {A A' G G' : Places} → Among A' A → Among G G' → Settled w x kept A G → Settled w x kept A' G'
  widen fewer more (nothing s) = nothing (λ p y. more p (s p (fewer p y)))
  widen fewer more (one_label s) = one_label (λ p q y t. more q (s p q (fewer p y) t))
  widen fewer more (in_turn {H = H} s t) = in_turn (widen {G' = H} fewer (λ k y. y) s) (widen {A' = H} (λ k y. y) more t)
  widen fewer more (one_of_two s t) = one_of_two (widen fewer more s) (widen fewer more t)
  widen fewer more (same_twice e s) = same_twice e (widen fewer more s)
  widen fewer more (alone s) = alone (λ p q y t. more q (s p q (fewer p y) t))
  widen fewer more (gone_on asked found s) = gone_on (λ p y. asked p (fewer p y)) (λ q y. more q (found q y)) s

  -- all that the expression leads to was found
  pub covers : {x : Expression} {kept : Kept} {A G : Places} → Settled w x kept A G → (p q : ℕ) → T (A p) → Spans x w p q → T (G q)
  covers {G = G} (nothing s) p q y t = subst (λ k. T (G k)) ((spans_empty p q).0 t).0 (s p y)
  covers (one_label s) p q y t = s p q y t
  covers (in_turn s t) p q y u = let (k, v, more) = (spans_then p q).0 u in covers t k q (covers s p k y v) more
  covers (one_of_two s t) p q y u = ⊎_elim (covers s p q y) (covers t p q y) ((spans_either p q).0 u)
  covers (same_twice e s) p q y u =
      ⊎_elim (covers s p q y) (λ v. covers s p q y (subst (λ (c : Expression). Spans c w p q) (sym e) v)) ((spans_either p q).0 u)
  covers (alone s) p q y t = s p q y t
  covers (gone_on {set = set} asked found s) p q y t =
      let goes = ((spans_star p q).0 t).0 in
      found q (star_keeps (In set) (λ i j z u. (in_members set j).0 (covers s i j ((in_members set i).1 z) u)) (asked p y) goes)

  -- where nothing is kept, nothing was asked
  pub at_first : (x : Expression) {kept : Kept} → Cleared kept → Settled w x kept (λ k. false) (λ k. false)
  at_first empty none = nothing (λ p y. y)
  at_first (one l) none = one_label (λ p q y t. absurd y)
  at_first (then a b) {kept} none = in_turn (at_first a (cleared_front kept (share a kept) none)) (at_first b (cleared_back kept (share a kept) none))
  at_first (either a b) {kept} none =
      one_of_two (at_first a (cleared_front kept (share a kept) none)) (at_first b (cleared_back kept (share a kept) none))
  at_first (star a) {kept = []} none = alone (λ p q y t. absurd y)
  at_first (star a) {kept = set ∷ kept} none =
      let first = none 0 (omega arith) in
      let others : Cleared kept = λ i l. none (suc i) (omega arith) in
      gone_on (λ p y. absurd y) (λ q y. absurd (first q y))
      (widen (λ k y. absurd (first k ((in_members set k).0 y))) (λ k y. absurd y) (at_first a others))

-- ---- what asking comes to

module _ {w : Word} {kept : Kept} {set : List ℕ} where
  -- from no place nothing is reached
  pub pass_none : {x : Expression} → ((k : ℕ) → ¬ In set k) → Passed x w kept set kept set
  pass_none none = record {
    led = λ q x. absurd (none q x);
    settled = λ A G s. widen (none_more A set none) (λ k y. (in_those G set k).1 (inl y)) s;
  }

  pub pass_empty : Inside (length w + 1) set → Passed empty w kept set kept set
  pass_empty places = record {
    led = λ q x. (q, x, (spans_empty q q).1 (refl, omega (arith, places q x)));
    settled = more;
  }
    where
      more : (A G : Places) → Settled w empty kept A G → Settled w empty kept (and_those A set) (and_those G set)
      more A G (nothing s) = nothing (λ p y. (in_those G set p).1 (⊎_map (s p) (λ z. z) ((in_those A set p).0 y)))

  pub pass_one : {l : ℕ} {r : List ℕ} → Image (Spans (one l) w) set r → Passed (one l) w kept set kept r
  pass_one {l} {r} f = record { led = λ q x. (f.exact q).0 x; settled = more }
    where
      more : (A G : Places) → Settled w (one l) kept A G → Settled w (one l) kept (and_those A set) (and_those G r)
      more A G (one_label s) =
          one_label (λ p q y t. (in_those G r q).1 (⊎_map (λ z. s p q z t) (λ z. (f.exact q).1 (p, z, t)) ((in_those A set p).0 y)))

-- where no set is kept
pub pass_alone : {w : Word} {a : Expression} (kept : Kept) {set r : List ℕ} → length kept ≡ 0 → Image (Spans (star a) w) set r
    → Passed (star a) w kept set kept r
pass_alone {w} {a} [] {set} {r} none f = record { led = λ q x. (f.exact q).0 x; settled = more }
  where
    more : (A G : Places) → Settled w (star a) [] A G → Settled w (star a) [] (and_those A set) (and_those G r)
    more A G (alone s) =
        alone (λ p q y t. (in_those G r q).1 (⊎_map (λ z. s p q z t) (λ z. (f.exact q).1 (p, z, t)) ((in_those A set p).0 y)))
pass_alone (first ∷ others) none f = absurd (omega (arith, none))

-- Two operands: the sets that are kept for the first, and those for the second, are divided as before.
module _ (a : Expression) (kept first second : Kept) (front : length first ≡ share a kept)
    (all : length first + length second ≡ length kept) where
  divided : length first ≡ share a (first ++ second)
  divided = front ∙ ap (λ (n : ℕ). min (stars a) n) (sym all ∙ sym (length-append first second))

  of_first : take (share a (first ++ second)) (first ++ second) ≡ first
  of_first = rw (← divided) (take-append_seam first second)

  of_second : drop (share a (first ++ second)) (first ++ second) ≡ second
  of_second = rw (← divided) (drop-append_seam first second)

  module _ {w : Word} where
    to_first : {A G : Places} → Settled w a first A G → Settled w a (take (share a (first ++ second)) (first ++ second)) A G
    to_first {A} {G} = subst (λ (k : Kept). Settled w a k A G) (sym of_first)

    to_second : {b : Expression} {A G : Places} → Settled w b second A G → Settled w b (drop (share a (first ++ second)) (first ++ second)) A G
    to_second {b} {A} {G} = subst (λ (k : Kept). Settled w b k A G) (sym of_second)

  module _ {w : Word} {b : Expression} where
    pub pass_then : {set half r : List ℕ} → Passed a w (take (share a kept) kept) set first half
        → Passed b w (drop (share a kept) kept) half second r → Passed (then a b) w kept set (first ++ second) r
    pass_then {set} {half} {r} f g = record {
      led = λ q x. let (k, y, t) = g.led q x in let (p, z, s) = f.led k y in (p, z, (spans_then p q).1 (k, s, t));
      settled = more;
    }
      where
        more : (A G : Places) → Settled w (then a b) kept A G → Settled w (then a b) (first ++ second) (and_those A set) (and_those G r)
        more A G (in_turn {H = H} s t) =
            in_turn (to_first (f.settled A H s)) (to_second (g.settled H G t))

    pub pass_either : {set one two r : List ℕ} → Passed a w (take (share a kept) kept) set first one
        → Passed b w (drop (share a kept) kept) set second two → Holds (λ k. In one k ⊎ In two k) r
        → Passed (either a b) w kept set (first ++ second) r
    pass_either {set} {one} {two} {r} f g both = record {
      led = λ q x. ⊎_elim (λ y. let (p, z, s) = f.led q y in (p, z, (spans_either p q).1 (inl s)))
          (λ y. let (p, z, s) = g.led q y in (p, z, (spans_either p q).1 (inr s))) ((both.exact q).0 x);
      settled = more;
    }
      where
        from_one : (A G : Places) → Settled w a (take (share a kept) kept) A G
            → Settled w a (take (share a (first ++ second)) (first ++ second)) (and_those A set) (and_those G r)
        from_one A G s = to_first (widen (λ k y. y) (and_more G one r (λ k y. inr ((both.exact k).1 (inl y)))) (f.settled A G s))

        more : (A G : Places) → Settled w (either a b) kept A G → Settled w (either a b) (first ++ second) (and_those A set) (and_those G r)
        more A G (one_of_two s t) =
            one_of_two (from_one A G s)
            (to_second (widen (λ k y. y) (and_more G two r (λ k y. inr ((both.exact k).1 (inr y)))) (g.settled A G t)))
        more A G (same_twice e s) = same_twice e (from_one A G s)

    -- one and the same, asked once
    pub pass_same : {set r : List ℕ} → a ≡ b → Passed a w (take (share a kept) kept) set first r
        → Passed (either a b) w kept set (first ++ second) r
    pass_same {set} {r} e f = record {
      led = λ q x. let (p, z, s) = f.led q x in (p, z, (spans_either p q).1 (inl s));
      settled = more;
    }
      where
        more : (A G : Places) → Settled w (either a b) kept A G → Settled w (either a b) (first ++ second) (and_those A set) (and_those G r)
        more A G (one_of_two s t) = same_twice e (to_first (f.settled A G s))
        more A G (same_twice e s) = same_twice e (to_first (f.settled A G s))

-- where nothing was kept before, asking comes to all that the expression leads to
pub from_cleared : {x : Expression} {w : Word} {kept kept' : Kept} {set r : List ℕ} → Cleared kept → Passed x w kept set kept' r
    → Image (Spans x w) set r
from_cleared {x} {set = set} {r = r} none f = record {
  exact = λ q. (
    f.led q,
    λ (p, y, s).
        ⊎_elim (λ z. absurd z) (λ z. z) ((in_those (λ k. false) r q).0
        (covers (f.settled (λ k. false) (λ k. false) (at_first x none)) p q ((in_those (λ k. false) set p).1 (inr y)) s)),
  );
}
