-- A star right behind a star, as two bytes side by side. Assumes nothing.
use Prim.Native.Nat.{ℕ, zero, suc, ◌-◌, ◌≤◌}
use native.Mathlib.Omega.{arith}
use mathlib.Core.Path.{◌≡◌}
use lib.ListN.{get_or}
use Rattle.reply.specs.Bytes.{Bytes}
use Rattle.text.specs.Promise.{StarBehindStar, behind}
use Rattle.derivation.proofs.Mistakes.{PlainBelow}

module _ {text : Bytes} where
  -- these are
  pub star_at : (at : ℕ) → 1 ≤ at → get_or text (at - 1) 0 ≡ 42 → get_or text at 0 ≡ 42 → StarBehindStar text at
  star_at zero l e f = absurd (omega arith)
  star_at (suc i) l e f = let back : suc i - 1 ≡ i = omega arith in behind (rw back at e) f

  -- and there are no others
  pub star_bytes : {at : ℕ} → StarBehindStar text at → (get_or text (at - 1) 0 ≡ 42) × (get_or text at 0 ≡ 42)
  star_bytes (behind {i = i} e f) = let back : suc i - 1 ≡ i = omega arith in (rw back e, f)

  -- the first byte stands behind none
  pub none_first : PlainBelow text 1
  none_first k l (behind e f) = absurd (omega arith)
