-- A text to which one part is written behind another. Assumes nothing.
use Prim.Native.Nat.{◌<◌}
use native.Mathlib.Omega.{arith}
use mathlib.Core.Path.{◌≡◌}
use mathlib.Core.List.{◌++◌, append_assoc}
use lib.ListN.{length, length-append}
use Rattle.std.specs.Prelude.{Result, Ok, Err, IsErrAnd}
use Rattle.std.proofs.lemmas.Result.{err_from_is_err_and}
use Rattle.reply.specs.Bytes.{Bytes}
use Rattle.printer.specs.declared.writing.TooLong.{TooLong}
use Rattle.printer.specs.Printing.{Goes}

-- The first part of a text.
module _ {s x middle : Bytes} {first : Result Unit TooLong} (goes : Goes s x first middle) (u : Bytes) where
  -- it fits, and the second one comes behind it
  pub and_then : {fits : Unit} {r : Result Unit TooLong} {after : Bytes} → first ≡ Ok fits → Goes u middle r after → Goes (s ++ u) x r after
  and_then {r = r} e h =
      let there : middle ≡ x ++ s = (rw e at goes.fits).0 in
      let whole : middle ++ u ≡ x ++ (s ++ u) = rw there (append_assoc x s u) in
      record { fits = rw whole at h.fits; full = rw whole at h.full }

  -- it does not fit, and nor does the whole
  pub too_long : {full : TooLong} {r : Result Unit TooLong} {again : TooLong} {after : Bytes} → first ≡ Err full
      → IsErrAnd r (λ more. more ≡ again) → Goes (s ++ u) x r after
  too_long {r = r} e fails =
      let g : 1024 < length (x ++ s) = rw e at goes.full in
      let longer : 1024 < length (x ++ (s ++ u)) = omega (arith, length-append x (s ++ u), length-append s u, length-append x s) in
      rw ((err_from_is_err_and r fails).1) (record { fits = tt; full = longer })
