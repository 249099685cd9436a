-- The lines of document 01's example, "the whole output is", computed from the definition. Assumes nothing.
use Prim.Native.Char.{code}
use mathlib.Core.Path.{◌≡◌, refl}
use mathlib.Core.List.{[], ◌∷◌}
use lib.ListN.{replicate}
use Rattle.reply.specs.Bytes.{Bytes}
use Rattle.reply.specs.Reply.{count, refused}
use Rattle.answer.specs.Bitmap.{bit}
use Rattle.lines.specs.Line.{digits, decimal, spaced, positions, line_of}

-- `A 3 2 4 7`
pub first : line_of (count 3) (148 ∷ replicate 511 0)
    ≡ code "A" ∷ code " " ∷ code "3" ∷ code " " ∷ code "2" ∷ code " " ∷ code "4" ∷ code " " ∷ code "7" ∷ code "\n" ∷ []
unfolding line_of spaced decimal digits positions bit
first = refl

-- `R 14 2`
pub second : (map : Bytes) → line_of (refused 14 2) map ≡ code "R" ∷ code " " ∷ code "1" ∷ code "4" ∷ code " " ∷ code "2" ∷ code "\n" ∷ []
unfolding line_of spaced decimal digits
second map = refl

-- `A 0`
pub third : line_of (count 0) (replicate 512 0) ≡ code "A" ∷ code " " ∷ code "0" ∷ code "\n" ∷ []
unfolding line_of spaced decimal digits positions bit
third = refl
