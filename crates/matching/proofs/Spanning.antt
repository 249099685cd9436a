-- What stands between two places of a word, for each kind of expression: the parts of a word lie one behind the other. Assumes nothing.
use Prim.Native.Nat.{ℕ, suc, ◌+◌, ◌-◌, ◌≤◌, ◌<◌}
use native.Mathlib.Nat.{le_refl, le_trans}
use native.Mathlib.Numerals.{add-one}
use native.Mathlib.Omega.{arith}
use mathlib.Core.Path.{◌≡◌, refl, sym, ap, ap₂, ◌∙◌}
use mathlib.Core.Logic.{◌↔◌, ◌⊎◌, inl, inr, ⊎_elim}
use mathlib.Core.List.{[], ◌∷◌, ◌++◌}
use lib.ListN.{length, take, drop, length-append}
use lib.Seq.{slice, slice_empty, slice-cons, length-slice, take-length, take-append_seam, drop-append_seam, take-take, take-add, drop-drop}
use Rattle.query.specs.Meaning.{Star, stop, step}
use Rattle.roll.proofs.Parts.{slice_part}
use Rattle.rules.specs.Language.{Expression, empty, one, then, either, star, Word}
use Rattle.rules.specs.Language.{InLanguage, nothing, label, both, left, right, no_more, once_more}
use Rattle.matching.specs.Spans.{Spans, LabelAt}

-- ---- words in a language, taken apart

no_label : {w : Word} → InLanguage empty w → w ≡ []
no_label nothing = refl

the_label : {l : ℕ} {w : Word} → InLanguage (one l) w → w ≡ l ∷ []
the_label label = refl

one_of : {a b : Expression} {w : Word} → InLanguage (either a b) w → InLanguage a w ⊎ InLanguage b w
one_of (left x) = inl x
one_of (right x) = inr x

-- ---- parts of a word

module _ (w : Word) where
  -- two parts, one behind the other
  joined : {p k q : ℕ} → p ≤ k → k ≤ q → slice p k w ++ slice k q w ≡ slice p q w
  joined {p} {k} {q} l m =
      let n : (k - p) + (q - k) ≡ q - p = omega arith in
      let at : p + (k - p) ≡ k = omega arith in
      ap₂ (λ (u v : Word). u ++ v)
      (sym (slice_part p k w l))
      (sym (slice_part k q w m) ∙ ap (λ (x : ℕ). take (q - k) (drop x w)) (sym at) ∙ ap (take (q - k)) (sym (drop-drop (k - p) p w)))
      ∙ sym (take-add (k - p) (q - k) (drop p w)) ∙ ap (λ (x : ℕ). take x (drop p w)) n ∙ slice_part p q w (le_trans l m)

  module _ {p q : ℕ} (order : p ≤ q) (within : q ≤ length w) where
    -- an empty part has one place at both ends
    no_part : slice p q w ≡ [] → p ≡ q
    no_part e = omega (arith, length-slice p q w within, ap length e)

    -- a part that is one word behind another: where the first ends, and the two as parts
    module _ (u v : Word) (e : slice p q w ≡ u ++ v) where
      between : p + length u ≤ q
      between = omega (arith, length-slice p q w within, ap length e, length-append u v)

      front : slice p (p + length u) w ≡ u
      front =
          let n : (p + length u) - p ≡ length u = omega arith in
          let m : length u ≤ q - p = omega (arith, between) in
          sym (slice_part p (p + length u) w (omega arith)) ∙ ap (λ (x : ℕ). take x (drop p w)) n
          ∙ sym (take-take (length u) (q - p) (drop p w) m) ∙ ap (take (length u)) (slice_part p q w order ∙ e) ∙ take-append_seam u v

      back : slice (p + length u) q w ≡ v
      back = sym (drop-drop (length u) p (take q w)) ∙ ap (drop (length u)) e ∙ drop-append_seam u v

-- ---- the spans of each kind of expression

module _ {w : Word} where
  -- empty: the place stays
  pub spans_empty : (p q : ℕ) → Spans empty w p q ↔ ((p ≡ q) × (q ≤ length w))
  spans_empty p q = (
    λ s. (no_part w s.order s.within (no_label s.part), s.within),
    λ (e, l). record { order = omega arith; within = l; part = rw (e, slice_empty q w) nothing },
  )

  -- one label: it stands there, and the place behind it is next
  pub spans_one : {l : ℕ} (p q : ℕ) → Spans (one l) w p q ↔ ((p + 1 ≡ q) × LabelAt w l p)
  spans_one {l} p q = (there, back)
    where
      there : Spans (one l) w p q → (p + 1 ≡ q) × LabelAt w l p
      there s =
          let e = the_label s.part in
          let next : p + 1 ≡ q = omega (arith, s.order, length-slice p q w s.within, ap length e) in
          let low : p < q = omega arith in
          (next, record { within = omega (arith, s.within); is = cc (slice-cons p q w 0 low s.within) })

      back : (p + 1 ≡ q) × LabelAt w l p → Spans (one l) w p q
      back (next, at) =
          let none : slice (suc p) q w ≡ [] = rw (← next, add-one p) (slice_empty (suc p) w) in
          let high : q ≤ length w = omega (arith, at.within) in
          record {
            order = omega arith;
            within = high;
            part = rw (slice-cons p q w 0 (omega arith) high, at.is, none) label;
          }

  -- two spans, one behind the other, of an expression whose words are made of both
  one_behind : {a b x : Expression} → ((u v : Word) → InLanguage a u → InLanguage b v → InLanguage x (u ++ v))
      → {p k q : ℕ} → Spans a w p k → Spans b w k q → Spans x w p q
  one_behind make {p} {k} {q} s t =
      record {
        order = le_trans s.order t.order;
        within = t.within;
        part = rw (← joined w s.order t.order) (make _ _ s.part t.part);
      }

  -- and a span of such an expression taken apart
  in_turn : {a b : Expression} {p q : ℕ} → p ≤ q → q ≤ length w → {u v : Word} → slice p q w ≡ u ++ v → InLanguage a u → InLanguage b v
      → Spans a w p (p + length u) × Spans b w (p + length u) q
  in_turn {p = p} order within {u} {v} e x y = (
    record { order = omega arith; within = le_trans (between w order within u v e) within; part = rw (front w order within u v e) x },
    record { order = between w order within u v e; within = within; part = rw (back w order within u v e) y },
  )

  module _ {a b : Expression} where
    -- one after another: through a place between
    pub spans_then : (p q : ℕ) → Spans (then a b) w p q ↔ ((k : ℕ) × Spans a w p k × Spans b w k q)
    spans_then p q = (λ s. apart s s.part refl, λ (k, s, t). one_behind (λ u v. both) s t)
      where
        apart : {v : Word} → Spans (then a b) w p q → InLanguage (then a b) v → slice p q w ≡ v → (k : ℕ) × Spans a w p k × Spans b w k q
        apart s (both {u = u} x y) e = let (t, more) = in_turn s.order s.within e x y in (p + length u, t, more)

    -- either
    pub spans_either : (p q : ℕ) → Spans (either a b) w p q ↔ (Spans a w p q ⊎ Spans b w p q)
    spans_either p q = (
      λ s. elim (one_of s.part) [
        | inl x ↦ inl (record { order = s.order; within = s.within; part = x })
        | inr x ↦ inr (record { order = s.order; within = s.within; part = x })
      ],
      ⊎_elim (λ s. record { order = s.order; within = s.within; part = left s.part })
          (λ s. record { order = s.order; within = s.within; part = right s.part }),
    )

  -- zero or more: from place to place
  pub spans_star : {a : Expression} (p q : ℕ) → Spans (star a) w p q ↔ (Star (Spans a w) p q × (q ≤ length w))
  spans_star {a} p q = (λ s. (steps s.part s.order s.within refl, s.within), λ (s, l). together s l)
    where
      steps : {v : Word} → InLanguage (star a) v → {p q : ℕ} → p ≤ q → q ≤ length w → slice p q w ≡ v → Star (Spans a w) p q
      steps no_more order within e = rw (no_part w order within e) stop
      steps (once_more {u = u} {v = v} x more) order within e =
          let (s, t) = in_turn order within e x more in
          step s (steps more t.order within (back w order within u v e))

      together : {p q : ℕ} → Star (Spans a w) p q → q ≤ length w → Spans (star a) w p q
      together {p} stop l = record { order = le_refl p; within = l; part = rw (slice_empty p w) no_more }
      together (step s more) l = one_behind (λ u v. once_more) s (together more l)

  -- no place is behind the word
  pub spans_stay : {x : Expression} (p q : ℕ) → p < length w + 1 → Spans x w p q → q < length w + 1
  spans_stay p q l s = omega (arith, s.within)

-- the whole word
pub spans_whole : {x : Expression} (w : Word) → Spans x w 0 (length w) ↔ InLanguage x w
spans_whole w = (
  λ s. rw (take-length w) at s.part,
  λ m. record { order = omega arith; within = le_refl (length w); part = rw (take-length w) m },
)
