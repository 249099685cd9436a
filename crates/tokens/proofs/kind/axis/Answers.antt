-- `axis`: each case is one of the five bytes, and the rest is none of them.
use Rattle.tokens.specs.Reading.{dot, letter_v, caret, greater, less, no_axis}
use native.Mathlib.Omega.{arith}
use Rattle.tokens.proofs.Places.{none_of, nor}
use Rattle.tokens.proofs.kind.axis.Goals as goal

pub returns-in-46 : goal.returns-in-46
returns-in-46 c = dot c.in-46.is

pub returns-in-118 : goal.returns-in-118
returns-in-118 c = letter_v c.in-118.is

pub returns-in-94 : goal.returns-in-94
returns-in-94 c = caret c.in-94.is

pub returns-in-62 : goal.returns-in-62
returns-in-62 c = greater c.in-62.is

pub returns-in-60 : goal.returns-in-60
returns-in-60 c = less c.in-60.is

pub returns-in_default : goal.returns-in_default
returns-in_default c =
    no_axis (nor (omega arith) (nor (omega arith) (nor (omega arith) (nor (omega arith) (nor (omega arith) none_of)))))
