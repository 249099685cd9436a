-- `digit`: a byte below 0 or above 9 is none, and any other is 48 more than its value.
use Prim.Native.Nat.{◌-◌}
use mathlib.Core.Logic.{⊎_elim}
use native.Mathlib.Omega.{arith}
use Rattle.tokens.specs.Label.{digit, too_low, too_high}
use Rattle.tokens.proofs.label.digit.Goals as goal

pub returns-then-is_ascii_digit : goal.returns-then-is_ascii_digit
returns-then-is_ascii_digit c =
    let is = c.if-is_ascii_digit.ensures.cases in
    digit {d = c.args.byte - 48} (omega arith) (omega arith)

pub returns-else-is_ascii_digit : goal.returns-else-is_ascii_digit
returns-else-is_ascii_digit c = let h = c.if-is_ascii_digit.ensures.cases in ⊎_elim too_low too_high h
