-- Turning a path round: the turned path leads from i to j exactly where the path leads from j to i. And a path whose filters are taken to hold
-- leads wherever the path does. Assumes nothing.
use Prim.Native.Nat.{ℕ}
use mathlib.Core.Path.{◌≡◌, sym}
use mathlib.Core.Logic.Iff
use mathlib.Core.Logic.{◌↔◌, ◌⊎◌, ⊎_map, eq_comm}
use Rattle.tree.specs.Tree.{Tree}
use Rattle.query.specs.Syntax.{Path, self, child, parent, next, previous, stay, then, either, star}
use Rattle.query.specs.Meaning.{Star, stop, step, reach, holds}
use Rattle.query.specs.Turn.{turn, free}
use Rattle.query.proofs.Closure.{star_keeps, star_map}

-- S is the relation R turned round
abbrev pub Turned : (ℕ → ℕ → Type 0) → (ℕ → ℕ → Type 0) → Type 0
Turned R S = (i j : ℕ) → S i j ↔ R j i

-- a star is walked backwards where each of its steps is
star_back : {R S : ℕ → ℕ → Type 0} → ((i j : ℕ) → R i j → S j i) → {i j : ℕ} → Star R i j → Star S j i
star_back {S = S} f {i} more = star_keeps (λ k. Star S k i) (λ k j done r. step (f k j r) done) stop more

-- a star turned round
pub star_turned : {R S : ℕ → ℕ → Type 0} → Turned R S → Turned (Star R) (Star S)
star_turned e i j = (star_back (λ a b. (e a b).0), star_back (λ a b. (e b a).1))

-- two relations one after the other, turned round
pub then_turned : {P P' Q Q' : ℕ → ℕ → Type 0} → Turned P P' → Turned Q Q'
    → Turned (λ i j. (k : ℕ) × P i k × Q k j) (λ i j. (k : ℕ) × Q' i k × P' k j)
then_turned d e i j = (λ (k, q, p). (k, (d k j).0 p, (e i k).0 q), λ (k, p, q). (k, (e i k).1 q, (d k j).1 p))

-- one of two relations, turned round
pub either_turned : {P P' Q Q' : ℕ → ℕ → Type 0} → Turned P P' → Turned Q Q' → Turned (λ i j. P i j ⊎ Q i j) (λ i j. P' i j ⊎ Q' i j)
either_turned d e i j = (⊎_map (d i j).0 (e i j).0, ⊎_map (d i j).1 (e i j).1)

-- where a filter stays, it stays turned round
stay_back : (P : ℕ → Type 0) (i j : ℕ) → (i ≡ j) × P i → (j ≡ i) × P j
stay_back P i j (e, h) = (sym e, rw e at h)

-- one law for every path, by induction on syntax
pub turn_right : (t : Tree) (p : Path) (i j : ℕ) → reach t (turn p) i j ↔ reach t p j i
unfolding reach turn
turn_right t self i j = eq_comm
turn_right t child i j = Iff.rfl
turn_right t parent i j = Iff.rfl
turn_right t next i j = Iff.rfl
turn_right t previous i j = Iff.rfl
turn_right t (stay f) i j = (stay_back (holds t f) i j, stay_back (holds t f) j i)
turn_right t (then p q) i j = then_turned (turn_right t p) (turn_right t q) i j
turn_right t (either p q) i j = either_turned (turn_right t p) (turn_right t q) i j
turn_right t (star p) i j = star_turned (turn_right t p) i j

-- what a path reaches, it reaches with its filters taken to hold
pub free_reaches : (t : Tree) (p : Path) (i j : ℕ) → reach t p i j → reach t (free p) i j
unfolding reach free
free_reaches t self i j r = r
free_reaches t child i j r = r
free_reaches t parent i j r = r
free_reaches t next i j r = r
free_reaches t previous i j r = r
free_reaches t (stay f) i j r = r.0
free_reaches t (then p q) i j (k, a, b) = (k, free_reaches t p i k a, free_reaches t q k j b)
free_reaches t (either p q) i j r = ⊎_map (free_reaches t p i j) (free_reaches t q i j) r
free_reaches t (star p) i j r = star_map (free_reaches t p) r
