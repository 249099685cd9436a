-- No reason has the number 0, so a refusal is never heard as a count. Assumes nothing.
use Prim.Native.Nat.{ℕ, zero, suc}
use mathlib.Core.Path.{◌≡◌, refl}
use mathlib.Core.Logic.{◌≢◌}
use Rattle.reply.specs.declared.Reason.{Reason}
use Rattle.reply.specs.Reply.{number, refused}
use Rattle.reply.proofs.Unique.{no_reason}
use Rattle.kepolas.specs.Told.{heard}

heard_some : (n : ℕ) {p : ℕ} → n ≢ 0 → heard n p ≡ refused n p
heard_some zero some = absurd (some refl)
heard_some (suc n) some = refl

pub heard_refused : (r : Reason) {p : ℕ} → heard (number r) p ≡ refused (number r) p
heard_refused r = heard_some (number r) (no_reason r)
