-- Functions that call themselves or each other: each call is at a smaller measure, a number made of the arguments. Assumes nothing.
use Prim.Native.Nat.{ℕ, ◌<◌}
use mathlib.Core.List.{List}
use borrow.Fn.Kind.{ParamKind}
use borrow.Fn.Kinds.{In}
use borrow.Fn.PlainCycle.{Measures, is, falls, and}

module _ {n : ℕ} (ps : List (ParamKind n)) (μ : Measures n ps ℕ) (pre : In n ps) (t : ℕ) where
  -- what a function is given at the measure t
  abbrev pub given : In n ps
  given = and n ps (is n ps μ t) pre

  -- what a call of it asks below t
  abbrev pub asked : In n ps
  asked = and n ps (falls n ps ◌<◌ μ t) pre
