-- Calls that give the bitmap of one set, and refuse alike, say the same and write the same, whatever bytes they are lent. Assumes nothing.
use Prim.Native.Nat.{ℕ, ◌≤◌}
use native.Mathlib.Omega.{arith}
use mathlib.Core.Path.{◌≡◌, refl, sym, ap, ap₂, ◌∙◌}
use lib.ListN.{length}
use Rattle.reply.specs.Reply.{Said, count, refused}
use Rattle.reply.specs.Bytes.{Bytes}
use Rattle.reply.specs.Outcome.{InTurn, first, behind, Outcome, done, short, turned_away}
use Rattle.reply.proofs.Unique.{Wrong, OneFault}
use Rattle.sets.specs.Bits.{ones}
use Rattle.answer.specs.Bitmap.{SetGiven}
use Rattle.answer.proofs.Unique.{bitmap_one}
use Rattle.answer.proofs.Giving.{given_front}
use Rattle.curator.specs.Demand.{Alike}

module _ {room : ℕ} {Right : Type 0} {Done : ℕ → Bytes → Type 0} {before : Bytes} where
  -- an input that is right has no share in how a call comes out
  pub passed : {Rest : Type 0} {First Behind : ℕ → ℕ → Type 0} {s : Said} {after : Bytes} → Wrong Right First → Right
      → Outcome room (Right × Rest) (InTurn Right First Behind) Done before s after → Outcome room Rest Behind Done before s after
  passed wrong right (done fits all given) = done fits all.1 given
  passed wrong right (short less) = short less
  passed wrong right (turned_away {n = n} {p = p} fits (first f)) = absurd (wrong n p f right)
  passed wrong right (turned_away fits (behind r f)) = turned_away fits f

  -- where there is room and all is right, the work is done
  pub worked : {Fault : ℕ → ℕ → Type 0} {s : Said} {after : Bytes} → Wrong Right Fault → Right → room ≤ length before
      → Outcome room Right Fault Done before s after → (c : ℕ) × (s ≡ count c) × Done c after
  worked wrong right fits (done {c = c} l r given) = (c, refl, given)
  worked wrong right fits (short less) = absurd (omega arith)
  worked wrong right fits (turned_away {n = n} {p = p} l f) = absurd (wrong n p f right)

  -- the work may be said otherwise
  pub said_otherwise : {Fault : ℕ → ℕ → Type 0} {Other : ℕ → Bytes → Type 0} {s : Said} {after : Bytes}
      → ((c : ℕ) (x : Bytes) → Done c x → Other c x)
      → Outcome room Right Fault Done before s after → Outcome room Right Fault Other before s after
  said_otherwise same (done {c = c} {after = x} l r given) = done l r (same c x given)
  said_otherwise same (short less) = short less
  said_otherwise same (turned_away l f) = turned_away l f

module _ {Set : ℕ → Type 0} {before before' : Bytes} where
  -- two rooms with the bitmap of one set
  pub given_alike : {c d : ℕ} {x y : Bytes} → SetGiven Set before c x → SetGiven Set before' d y → Alike (count c) x (count d) y
  given_alike a b =
      let same = bitmap_one a.is b.is in
      record { reply = ap count (a.count ∙ ap ones same ∙ sym b.count); bitmap = λ e. given_front a ∙ same ∙ sym (given_front b) }

  module _ {Right : Type 0} {Fault : ℕ → ℕ → Type 0} (wrong : Wrong Right Fault) (one : OneFault Fault)
      (fits : 512 ≤ length before) (fits' : 512 ≤ length before') where
    -- and two calls that give it where all is right
    pub alike : {s u : Said} {x y : Bytes} → Outcome 512 Right Fault (SetGiven Set before) before s x
        → Outcome 512 Right Fault (SetGiven Set before') before' u y → Alike s x u y
    alike (done l right a) y = let (d, e, b) = worked wrong right fits' y in rw e (given_alike a b)
    alike (short less) y = absurd (omega arith)
    alike (turned_away {n = n} {p = p} l f) (done l' right b) = absurd (wrong n p f right)
    alike (turned_away l f) (short less) = absurd (omega arith)
    alike (turned_away {n = n} {p = p} l f) (turned_away {n = m} {p = q} l' f') =
        let (e, e') = one n m p q f f' in
        record { reply = ap₂ refused e e'; bitmap = λ counts. let z : ◌≡◌ {A = ℕ} 0 1 = cc in absurd (omega arith) }
