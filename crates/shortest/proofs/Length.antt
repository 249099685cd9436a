-- All texts of a path have the same bytes besides brackets, so the one with the fewest brackets is the shortest. Assumes nothing.
use Prim.Native.Nat.{ℕ, ◌+◌, ◌*◌, ◌≤◌}
use native.Mathlib.Omega.{arith}
use mathlib.Core.Path.{◌≡◌, refl}
use mathlib.Core.List.{[], ◌∷◌, ◌++◌}
use lib.ListN.{length}
use Rattle.reply.specs.Bytes.{Bytes}
use Rattle.query.specs.Syntax.{Path, self, child, parent, next, previous, stay, then, either, star}
use Rattle.query.specs.Syntax.{Filter, labelled, leads, always, never, not, and, or}
use Rattle.text.specs.Grammar.{LabelText, one_digit, two_digits, PathText, one_sequence, bar, one_item, slash, an_atom, starred}
use Rattle.text.specs.Grammar.{dot, letter_v, caret, greater, less, square, round, one_conjunction, plus}
use Rattle.text.specs.Grammar.{one_term, ampersand, exclamation, letter_t, letter_f, hash, curly, a_path}
use Rattle.text.specs.Promise.{opening, how_many}
use Rattle.text.specs.Print.{PlainText, Fewest}
use Rattle.derivation.proofs.NextByte.{digit_opens_nothing}
use Rattle.shortest.proofs.Shown.{label_shown}
use Rattle.shortest.proofs.Best.{opens, opens_append, label_best}
use lib.ListN.{length-append}

unfoldable mutual
  -- the bytes of a path besides brackets
  path_size : Path → ℕ
  path_size self = 1
  path_size child = 1
  path_size parent = 1
  path_size next = 1
  path_size previous = 1
  path_size (stay f) = filter_size f
  path_size (then p q) = path_size p + (1 + path_size q)
  path_size (either p q) = path_size p + (1 + path_size q)
  path_size (star p) = path_size p + 1

  -- and of a filter
  filter_size : Filter → ℕ
  filter_size (labelled l) = 1 + length (label_shown l)
  filter_size (leads p) = path_size p
  filter_size always = 1
  filter_size never = 1
  filter_size (not f) = 1 + filter_size f
  filter_size (and f g) = filter_size f + (1 + filter_size g)
  filter_size (or f g) = filter_size f + (1 + filter_size g)

-- there is one at least
mutual
  unfolding path_size filter_size

  path_some : (p : Path) → 1 ≤ path_size p
  path_some self = omega arith
  path_some child = omega arith
  path_some parent = omega arith
  path_some next = omega arith
  path_some previous = omega arith
  path_some (stay f) = filter_some f
  path_some (then p q) = omega arith
  path_some (either p q) = omega arith
  path_some (star p) = omega arith

  filter_some : (f : Filter) → 1 ≤ filter_size f
  filter_some (labelled l) = omega arith
  filter_some (leads p) = path_some p
  filter_some always = omega arith
  filter_some never = omega arith
  filter_some (not f) = omega arith
  filter_some (and f g) = omega arith
  filter_some (or f g) = omega arith

-- a text has `size` bytes besides its brackets
abbrev Sized : ℕ → Bytes → Type 0
Sized size s = length s ≡ size + 2 * opens s

-- two parts
both_sized : (a b : ℕ) (s u : Bytes) → Sized a s → Sized b u → Sized (a + b) (s ++ u)
both_sized a b s u x y = omega (arith, length-append s u, opens_append s u)

-- a label
label_sized : {s : Bytes} {l : ℕ} → LabelText s l → opens s ≡ 0
unfolding how_many
label_sized (one_digit {d = d} a b) = rw (digit_opens_nothing {c = 48 + d} (omega arith) (omega arith), how_many)
label_sized (two_digits {d = d} {e = e} a b m) =
    let first = digit_opens_nothing {c = 48 + d} (omega arith) (omega arith) in
    let second = digit_opens_nothing {c = 48 + e} (omega arith) (omega arith) in
    rw (first, how_many, second, how_many)

-- by induction over the grammar, all kinds at once
path_sized : {s : Bytes} {p : Path} → PathText s p → Sized (path_size p) s
unfolding path_size filter_size how_many opening
path_sized x =
    elim x as (λ s p y. Sized (path_size p) s) (λ s p y. Sized (path_size p) s)
    (λ s p y. Sized (path_size p) s) (λ s p y. Sized (path_size p) s)
    (λ s f y. Sized (filter_size f) s) (λ s f y. Sized (filter_size f) s) (λ s f y. Sized (filter_size f) s) [
      | one_sequence (x → h) ↦ h
      | bar {s = s} {u = u} {p = p} {q = q} (x → h) (y → k) ↦ both_sized (path_size p) (1 + path_size q) s (124 ∷ u) h (omega (arith, k))
      | one_item (x → h) ↦ h
      | slash {s = s} {u = u} {p = p} {q = q} (x → h) (y → k) ↦ both_sized (path_size p) (1 + path_size q) s (47 ∷ u) h (omega (arith, k))
      | an_atom (x → h) ↦ h
      | starred {s = s} {p = p} (x → h) ↦ both_sized (path_size p) 1 s (42 ∷ []) h refl
      | dot ↦ refl
      | letter_v ↦ refl
      | caret ↦ refl
      | greater ↦ refl
      | less ↦ refl
      | square {s = s} (x → h) ↦ omega (arith, h, length-append s (93 ∷ []), opens_append s (93 ∷ []))
      | round {s = s} (x → h) ↦ omega (arith, h, length-append s (41 ∷ []), opens_append s (41 ∷ []))
      | one_conjunction (x → h) ↦ h
      | plus {s = s} {u = u} {f = f} {g = g} (x → h) (y → k) ↦ both_sized (filter_size f) (1 + filter_size g) s (43 ∷ u) h (omega (arith, k))
      | one_term (x → h) ↦ h
      | ampersand {s = s} {u = u} {f = f} {g = g} (x → h) (y → k) ↦
          both_sized (filter_size f) (1 + filter_size g) s (38 ∷ u) h (omega (arith, k))
      | exclamation (x → h) ↦ omega (arith, h)
      | letter_t ↦ refl
      | letter_f ↦ refl
      | hash x ↦ rw (← label_best x) (omega (arith, label_sized x))
      | curly {s = s} (x → h) ↦ omega (arith, h, length-append s (125 ∷ []), opens_append s (125 ∷ []))
      | a_path (x → h) ↦ h
    ]

-- The text with the fewest brackets is no longer than any other in which no star stands right behind a star.
pub fewest_shortest : {p : Path} {s : Bytes} → Fewest p s → (u : Bytes) → PlainText p u → length s ≤ length u
fewest_shortest x u y =
    let a = path_sized x.of.text_of in
    let b = path_sized y.text_of in
    let c = x.fewest u y in
    omega arith

-- every text has a byte
pub text_some : {p : Path} {s : Bytes} → PathText s p → 1 ≤ length s
text_some {p} x = omega (arith, path_sized x, path_some p)
