-- `share`: none of a word's numbers, the lowest ones, or all.
use Prim.Native.Nat.{◌-◌}
use native.Mathlib.Omega.{arith}
use lib.Pow.{pow_pos}
use Rattle.sets.proofs.Digits.{zero_digit, shifted, low_shifted, digit_low}
use Rattle.sets.proofs.build.share.Goals as goal

pub returns-then-n-before : goal.returns-then-n-before
returns-then-n-before c k l = let z = zero_digit k in (λ e. absurd (omega arith), λ h. absurd (omega arith))

pub overflow_sub-result : goal.overflow_sub-result
overflow_sub-result c = rw (shifted 64 (c.args.n - c.args.before) (omega arith)) (pow_pos _)

pub returns-then-most-lt64 : goal.returns-then-most-lt64
returns-then-most-lt64 c k l =
    let args = c.args in
    let low = low_shifted 64 (args.n - args.before) k (omega arith) in
    (λ e. let h = low.0 e in omega arith, λ h. low.1 (omega arith))

pub returns-else-most-lt64 : goal.returns-else-most-lt64
returns-else-most-lt64 c k l = (λ e. omega arith, λ h. (digit_low 64 k).1 l)
