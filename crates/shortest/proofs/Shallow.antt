-- Brackets nest in the text that is shown for a path less deep than the path is high, so that none is one too many. Assumes nothing.
use Prim.Native.Nat.{ℕ, zero, suc, ◌+◌, ◌-◌, ◌/◌, ◌%◌, ◌≤◌, ◌<◌}
use native.Mathlib.Decide.{dec_le}
use native.Mathlib.Omega.{arith}
use mathlib.Core.Path.{◌≡◌, refl}
use mathlib.Core.Bool.{Bool, true, false, cond}
use mathlib.Core.List.{[], ◌∷◌, ◌++◌}
use lib.Dec.{leb, ltb}
use lib.ListN.{length, take}
use lib.Seq.{take-nil, take-append-le, take-append-add}
use borrow.Author.Tests.{ltb-true}
use Rattle.reply.specs.Bytes.{Bytes}
use Rattle.tree.specs.Tree.{Label}
use Rattle.query.specs.Syntax.{Path, self, child, parent, next, previous, stay, then, either, star}
use Rattle.query.specs.Syntax.{Filter, labelled, leads, always, never, not, and, or}
use Rattle.text.specs.Promise.{opening, closing, how_many, OneTooMany}
use Rattle.derivation.proofs.NextByte.{digit_opens_nothing, digit_closes_nothing}
use Rattle.shortest.proofs.Shown.{path_rank, filter_rank, between, held, path_held, filter_held, label_shown, path_shown, filter_shown}
use Rattle.shortest.proofs.Best.{how_many_append}
use Rattle.shortest.proofs.Texts.{PathLabels, FilterLabels}
use Rattle.shortest.proofs.Heights.{path_height, filter_height}

-- Where a brackets are open, these bytes leave b open, and fewer than h are open before and behind each of them.
record Nests (h a : ℕ) (s : Bytes) (b : ℕ) : Type 0 where
  fewer : (k : ℕ) → how_many opening (take k s) + a < how_many closing (take k s) + h
  leaves : how_many opening s + a ≡ how_many closing s + b

-- how many brackets a byte opens, and how many it closes
abbrev Turns : ℕ → ℕ → ℕ → Type 0
Turns c up down = (how_many opening (c ∷ []) ≡ up) × (how_many closing (c ∷ []) ≡ down)

-- a byte
byte : {h a b c up down : ℕ} → Turns c up down → up + a ≡ down + b → a < h → b < h → Nests h a (c ∷ []) b
unfolding how_many
byte {h} {a} {b} {c} t e l m = record { fewer = fewer; leaves = omega (arith, t.0, t.1) }
  where
    fewer : (k : ℕ) → how_many opening (take k (c ∷ [])) + a < how_many closing (take k (c ∷ [])) + h
    fewer zero = omega arith
    fewer (suc k) = rw (take-nil k) (omega (arith, t.0, t.1))

-- bytes, and more of them behind
both : {h a b d : ℕ} {s u : Bytes} → Nests h a s b → Nests h b u d → Nests h a (s ++ u) d
both {h} {a} {b} {d} {s} {u} x y =
    let opens = how_many_append opening s u in
    let closes = how_many_append closing s u in
    record { fewer = λ k. at k (dec_le k (length s)); leaves = omega (arith, x.leaves, y.leaves) }
  where
    at : (k : ℕ) → Dec (k ≤ length s) → how_many opening (take k (s ++ u)) + a < how_many closing (take k (s ++ u)) + h
    at k (yes front) = rw (take-append-le k s u front) (x.fewer k)
    at k (no behind) =
        let j : ℕ = k - length s in
        let place : k ≡ length s + j = omega arith in
        let opens = how_many_append opening s (take j u) in
        let closes = how_many_append closing s (take j u) in
        rw (place, take-append-add s u j) (omega (arith, x.leaves, y.fewer j))

-- A text that closes what it opens, with fewer than h open anywhere.
abbrev Below : ℕ → Bytes → Type 0
Below h s = Nests h 0 s 0

-- there may be more
below_more : {h k : ℕ} {s : Bytes} → h ≤ k → Below h s → Below k s
below_more l x = record { fewer = λ k. omega (arith, x.fewer k); leaves = x.leaves }

-- a byte that opens a bracket, and one that closes it
module _ (o c : ℕ) (up : Turns o 1 0) (down : Turns c 0 1) where
  -- between them there is one more
  enclosed_below : {h : ℕ} {s : Bytes} → Below h s → Below (suc h) (between o c s)
  unfolding between how_many
  enclosed_below {h} {s} x =
      let inside : Nests (suc h) 1 s 1 = record { fewer = λ k. omega (arith, x.fewer k); leaves = omega (arith, x.leaves) } in
      let some : 0 < h = omega (arith, x.fewer 0) in
      both (byte up (omega arith) (omega arith) (omega arith)) (both inside (byte down (omega arith) (omega arith) (omega arith)))

  -- and no more than that where they may be needed
  held_below : (least rank : ℕ) {h k : ℕ} {s : Bytes} → h < k → Below h s → Below k (held o c least rank s)
  unfolding held
  held_below least rank {k = k} {s = s} l x = go (leb least rank)
    where
      go : (y : Bool) → Below k (cond y s (between o c s))
      go true = below_more (omega arith) x
      go false = below_more (omega arith) (enclosed_below x)

-- a byte that is no bracket
plain : {c : ℕ} → Turns c 0 0 → Below 1 (c ∷ [])
plain t = byte t (omega arith) (omega arith) (omega arith)

-- texts joined-below by one
joined_below : (c : ℕ) {h : ℕ} {s u : Bytes} → Turns c 0 0 → Below h s → Below h u → Below h (s ++ c ∷ u)
unfolding how_many
joined_below c {h} t x y = let some : 0 < h = omega (arith, x.fewer 0) in both x (both (below_more (omega arith) (plain t)) y)

-- a digit is none
digit : {d : ℕ} → d ≤ 9 → Below 1 ((48 + d) ∷ [])
unfolding how_many
digit {d} l =
    let opens = digit_opens_nothing {c = 48 + d} (omega arith) (omega arith) in
    let closes = digit_closes_nothing {c = 48 + d} (omega arith) (omega arith) in
    plain (rw (opens, how_many), rw (closes, how_many))

-- a label's text
label_below : (l : ℕ) → Label l → Below 1 (label_shown l)
unfolding label_shown
label_below l h = go (ltb l 10) refl
  where
    go : (x : Bool) → ltb l 10 ≡ x → Below 1 (cond x ((48 + l) ∷ []) ((48 + l / 10) ∷ (48 + l % 10) ∷ []))
    go true e = let low = ltb-true l 10 e in digit (omega arith)
    go false e = both (digit {d = l / 10} (omega (arith, h.most))) (digit {d = l % 10} (omega arith))

-- an operand, in brackets or not
path_held_below : (least : ℕ) (p : Path) {h : ℕ} → path_height p < h → Below (path_height p) (path_shown p)
    → Below h (path_held least p (path_shown p))
unfolding path_held how_many opening closing
path_held_below least p l x = held_below 40 41 (refl, refl) (refl, refl) least (path_rank p) l x

filter_held_below : (least : ℕ) (f : Filter) {h : ℕ} → filter_height f < h → Below (filter_height f) (filter_shown f)
    → Below h (filter_held least f (filter_shown f))
unfolding filter_held how_many opening closing
filter_held_below least f l x = held_below 123 125 (refl, refl) (refl, refl) least (filter_rank f) l x

-- what is shown, by induction over paths and filters
mutual
  unfolding path_shown filter_shown path_height filter_height how_many opening closing

  path_below : (p : Path) → PathLabels p → Below (path_height p) (path_shown p)
  path_below self h = plain (refl, refl)
  path_below child h = plain (refl, refl)
  path_below parent h = plain (refl, refl)
  path_below next h = plain (refl, refl)
  path_below previous h = plain (refl, refl)
  path_below (stay f) h = enclosed_below 91 93 (refl, refl) (refl, refl) (filter_below f h)
  path_below (then p q) h =
      joined_below 47 (refl, refl) (path_held_below 1 p (omega arith) (path_below p h.0))
      (path_held_below 2 q (omega arith) (path_below q h.1))
  path_below (either p q) h =
      joined_below 124 (refl, refl) (below_more (omega arith) (path_below p h.0))
      (path_held_below 1 q (omega arith) (path_below q h.1))
  path_below (star p) h = both (path_held_below 3 p (omega arith) (path_below p h)) (below_more (omega arith) (plain (refl, refl)))

  filter_below : (f : Filter) → FilterLabels f → Below (filter_height f) (filter_shown f)
  filter_below (labelled l) h = both (plain (refl, refl)) (label_below l h)
  filter_below (leads p) h = below_more (omega arith) (path_below p h)
  filter_below always h = plain (refl, refl)
  filter_below never h = plain (refl, refl)
  filter_below (not f) h = both (below_more (omega arith) (plain (refl, refl))) (filter_held_below 2 f (omega arith) (filter_below f h))
  filter_below (and f g) h =
      joined_below 38 (refl, refl) (filter_held_below 1 f (omega arith) (filter_below f h.0))
      (filter_held_below 2 g (omega arith) (filter_below g h.1))
  filter_below (or f g) h =
      joined_below 43 (refl, refl) (below_more (omega arith) (filter_below f h.0))
      (filter_held_below 1 g (omega arith) (filter_below g h.1))

-- "a bracket is opened while 32 are open": nowhere in what is shown for a path that is at most 32 high.
pub shown_shallow : (p : Path) → PathLabels p → path_height p ≤ 32 → (k : ℕ) → ¬ OneTooMany (path_shown p) k
shown_shallow p labels low k deep = omega (arith, (path_below p labels).fewer k, deep.already)
