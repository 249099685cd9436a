-- When a path on one tree follows a path on another, and a filter implies another, between nodes that are tied together: the laws for every way
-- to make a path or a filter out of others. Assumes nothing.
use Prim.Native.Nat.{ℕ}
use mathlib.Core.Path.{refl}
use mathlib.Core.Logic.{inl, inr, ⊎_map}
use Rattle.tree.specs.Tree.{Tree}
use Rattle.query.specs.Syntax.{Path, self, stay, then, either, star}
use Rattle.query.specs.Syntax.{Filter, leads, not, and, or}
use Rattle.query.specs.Meaning.{Star, stop, step, reach, holds}

-- Where p leads on t from a node, q leads on u from each node tied to it, to a node tied to where p led.
pub record Simulates (t u : Tree) (Tied : ℕ → ℕ → Type 0) (p q : Path) : Type 0 where
  pub move : {i a j : ℕ} → Tied i a → reach t p i j → (b : ℕ) × Tied j b × reach u q a b

-- Where f holds on t at a node, g holds on u at each node tied to it.
pub record Implies (t u : Tree) (Tied : ℕ → ℕ → Type 0) (f g : Filter) : Type 0 where
  pub keep : {i a : ℕ} → Tied i a → holds t f i → holds u g a

-- the ties, seen from the other tree
abbrev pub turned : (ℕ → ℕ → Type 0) → ℕ → ℕ → Type 0
turned Tied a i = Tied i a

module _ {t u : Tree} {Tied : ℕ → ℕ → Type 0} where
  -- both stay where they are
  pub simulates_self : Simulates t u Tied self self
  unfolding reach
  simulates_self = record { move = λ {i} {a} {j} z e. (a, rw e at z, refl) }

  -- both stay, if their filters hold
  pub simulates_stay : {f g : Filter} → Implies t u Tied f g → Simulates t u Tied (stay f) (stay g)
  unfolding reach
  simulates_stay h = record { move = λ {i} {a} {j} z r. (a, rw r.0 at z, (refl, h.keep z r.1)) }

  -- one after the other
  pub simulates_then : {p q x y : Path} → Simulates t u Tied p x → Simulates t u Tied q y → Simulates t u Tied (then p q) (then x y)
  unfolding reach
  simulates_then f g =
      record {
        move = λ z r.
            let (c, w, m) = f.move z r.1 in
            let (b, y, n) = g.move w r.2 in
            (b, y, (c, m, n));
      }

  -- each of two ways is followed
  pub simulates_either : {p q x y : Path} → Simulates t u Tied p x → Simulates t u Tied q y → Simulates t u Tied (either p q) (either x y)
  unfolding reach
  simulates_either {p} {q} {x} {y} f g = record { move = go }
    where
      go : {i a j : ℕ} → Tied i a → reach t (either p q) i j → (b : ℕ) × Tied j b × reach u (either x y) a b
      go z (inl r) = let (b, w, m) = f.move z r in (b, w, inl m)
      go z (inr r) = let (b, w, m) = g.move z r in (b, w, inr m)

  -- step by step
  pub simulates_star : {p x : Path} → Simulates t u Tied p x → Simulates t u Tied (star p) (star x)
  unfolding reach
  simulates_star {p} {x} f = record { move = go }
    where
      go : {i a j : ℕ} → Tied i a → Star (reach t p) i j → (b : ℕ) × Tied j b × Star (reach u x) a b
      go {a} z stop = (a, z, stop)
      go z (step r more) =
          let (c, w, m) = f.move z r in
          let (b, y, n) = go w more in
          (b, y, step m n)

  -- where a path leads somewhere, so does one that follows it
  pub implies_leads : {p x : Path} → Simulates t u Tied p x → Implies t u Tied (leads p) (leads x)
  unfolding holds
  implies_leads f = record { keep = λ z r. let (b, w, m) = f.move z r.1 in (b, m) }

  -- where not f holds, not g does, if g implies f: here the two trees change places
  pub implies_not : {f g : Filter} → Implies u t (turned Tied) g f → Implies t u Tied (not f) (not g)
  unfolding holds
  implies_not h = record { keep = λ z n r. n (h.keep z r) }

  -- part by part
  pub implies_and : {f g x y : Filter} → Implies t u Tied f x → Implies t u Tied g y → Implies t u Tied (and f g) (and x y)
  unfolding holds
  implies_and h k = record { keep = λ z r. (h.keep z r.0, k.keep z r.1) }

  -- whichever of the two holds
  pub implies_or : {f g x y : Filter} → Implies t u Tied f x → Implies t u Tied g y → Implies t u Tied (or f g) (or x y)
  unfolding holds
  implies_or h k = record { keep = λ z r. ⊎_map (h.keep z) (k.keep z) r }
