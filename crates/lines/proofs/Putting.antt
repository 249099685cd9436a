-- Pieces of a line that are written one behind the other are one piece. Assumes nothing.
use Prim.Native.Nat.{ℕ, ◌+◌, ◌≤◌}
use native.Mathlib.Nat.{add-zero}
use native.Mathlib.Omega.{arith}
use mathlib.Core.Path.{◌≡◌, refl, sym, ap, ap₂, ◌∙◌}
use mathlib.Core.List.{[], ◌++◌, append_assoc, append-nil}
use lib.ListN.{length, take, drop, take-append-drop, length-append, length-drop}
use lib.Seq.{length-take-le, take_at, drop-append-add, drop-drop}
use Rattle.reply.specs.Bytes.{Bytes, Written}
use Rattle.lines.specs.declared.line.Line.{Line}
use Rattle.lines.specs.Put.{Put, Wrote}

-- nothing is written
pub put_none : (b : Bytes) (at : ℕ) → Put b at [] at b
put_none b at = record { end = sym (add-zero at); bytes = rw append-nil (sym (take-append-drop at b)) }

-- what is written at the front
pub put_written : {b s after : Bytes} {to : ℕ} → to ≤ length b → Put b 0 s to after → Written b s after
put_written {b} {s} {to = to} fits p =
    let e : to ≡ length s = omega (arith, p.end) in
    record { room = omega arith; bytes = p.bytes ∙ ap (λ (n : ℕ). s ++ drop n b) e }

module _ {b s after : Bytes} {at to : ℕ} (fits : to ≤ length b) (p : Put b at s to after) where
  -- the bytes up to the end of what is written
  front : length (take at b ++ s) ≡ to
  front = length-append (take at b) s ∙ ap (λ (n : ℕ). n + length s) (length-take-le at b (omega (arith, p.end))) ∙ sym p.end

  -- there are as many bytes as before
  pub put_length : length after ≡ length b
  put_length = ap length p.bytes ∙ length-append (take at b ++ s) (drop to b) ∙ omega (arith, front, length-drop to b)

  -- another piece behind it
  pub put_then : {t last : Bytes} {end : ℕ} → Put after to t end last → Put b at (s ++ t) end last
  put_then {t} {last} {end} q = record {
    end = omega (arith, p.end, q.end, length-append s t);
    bytes = q.bytes ∙ ap₂ (λ (x y : Bytes). x ++ t ++ y) before behind
        ∙ ap (λ (x : Bytes). x ++ drop end b) (append_assoc (take at b) s t);
  }
    where
      before : take to after ≡ take at b ++ s
      before = ap (take to) p.bytes ∙ take_at (take at b ++ s) (drop to b) to front

      behind : drop end after ≡ drop end b
      behind =
          let e : end ≡ length (take at b ++ s) + length t = q.end ∙ ap (λ (n : ℕ). n + length t) (sym front) in
          ap₂ drop e p.bytes ∙ drop-append-add (take at b ++ s) (drop to b) (length t)
          ∙ drop-drop (length t) to b ∙ ap (λ (n : ℕ). drop n b) (sym q.end)

-- ---- the same of a line

pub wrote_none : (a : Line) → a.at ≤ length a.out.now → Wrote a [] a
wrote_none a fits = record { same = refl; long = refl; fits = fits; put = put_none a.out.now a.at }

pub wrote_then : {a b c : Line} {s t : Bytes} → Wrote a s b → Wrote b t c → Wrote a (s ++ t) c
wrote_then x y =
    record { same = y.same ∙ x.same; long = y.long ∙ x.long; fits = omega (arith, x.long, y.fits); put = put_then x.fits x.put y.put }
