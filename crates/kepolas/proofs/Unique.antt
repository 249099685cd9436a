-- What is told is told in one way: two pairs of numbers that fit are equal. For call 7 that is `run_place_one` of roll. Assumes nothing.
use Prim.Native.Nat.{ℕ, zero, suc}
use native.Mathlib.Omega.{arith}
use mathlib.Core.Path.{◌≡◌, refl}
use Rattle.reply.specs.Reply.{Said}
use Rattle.kepolas.specs.Told.{heard, Tells}

-- two pairs that say the same are equal
heard_one : (n m : ℕ) {p q : ℕ} → heard n p ≡ heard m q → (n ≡ m) × (p ≡ q)
heard_one zero zero e = (refl, cc)
heard_one zero (suc m) e = let z : ◌≡◌ {A = ℕ} 0 1 = cc in absurd (omega arith)
heard_one (suc n) zero e = let z : ◌≡◌ {A = ℕ} 0 1 = cc in absurd (omega arith)
heard_one (suc n) (suc m) e = (cc, cc)

-- and so are two that tell a reply of a call that says one thing
pub tells_one : {P Q : Said → Type 0} {n m p q : ℕ} → ((s u : Said) → P s → Q u → s ≡ u) → Tells P n p → Tells Q m q → (n ≡ m) × (p ≡ q)
tells_one {n = n} {m = m} one g h = let same = one g.said h.said g.promised h.promised in heard_one n m cc
