-- `go_on`: each turn goes on from the lowest node that waits, so what has been gone on from grows.
use Prim.Native.Nat.{◌+◌, ◌*◌, ◌%◌, ◌^◌}
use native.Mathlib.Omega.{arith}
use mathlib.Core.Path.{◌≡◌, refl}
use mathlib.Core.Logic.{◌⊎◌, inl, inr}
use lib.ListN.{get_or, set, length-set}
use lib.Bits.{bit_or}
use Rattle.sets.specs.Sets.{In, Holds}
use Rattle.sets.proofs.Digits.{none_of_zero}
use Rattle.sets.proofs.Words.{added_at}
use Rattle.sets.proofs.Size.{size_most}
use Rattle.steps.specs.Star.{Waits}
use Rattle.steps.proofs.Going.{not_gone, one_gone, gone_further, gone_more, steps_from}
use Rattle.steps.proofs.walk.Walk.go_on.Goals as goal
use Rattle.steps.proofs.walk.Walk.go_on.Goals.{In-Some}

-- the node of a turn waits
waits : (c : In-Some) → Waits c.loop-k.set c.args.sources.now c.loop-k.gone (64 * c.args.w + c.in-Some.k)
waits c = let taken = c.in-Some.ensures.steps in (c.waiting.ensures.each _ taken.low).0 taken.one

pub loop-k-init : goal.loop-k-init
loop-k-init c = (not_gone, c.told-gone)

-- where it is put in
put : (c : In-Some)
    → Holds (λ j. In c.loop-k.gone j ⊎ (64 * c.args.w + c.in-Some.k ≡ j))
    (set c.loop-k.gone c.args.w (bit_or (get_or c.loop-k.gone c.args.w 0) (1 * 2 ^ c.in-Some.k % 2 ^ 64)))
put c = added_at c.loop-k.gone c.args.w c.in-Some.k c.loop-k.invariant.1 c.requires.w_bound c.in-Some.ensures.steps.low

pub loop-k-smaller : goal.loop-k-smaller
loop-k-smaller c =
    let turn = (goal.at.loop-k-smaller c).In-Some in
    let low = c.in-Some.ensures.steps.low in
    let gone = (put turn).exact in
    let more = gone_more (λ k x. (gone k).1 (inl x)) (omega (arith, c.requires.w_bound)) (waits turn).left ((gone _).1 (inr refl)) in
    omega (arith, more, size_most (set c.loop-k.gone c.args.w (bit_or (get_or c.loop-k.gone c.args.w 0) (1 * 2 ^ c.in-Some.k % 2 ^ 64))))

pub loop-k-preserved : goal.loop-k-preserved
loop-k-preserved c =
    let turn = (goal.at.loop-k-preserved c).In-Some in
    let here = waits turn in
    let before = c.loop-k.invariant in
    (gone_further before.0 (one_gone here.member (put turn) (steps_from here.source c.add_along.ensures)), simp length-set before.1)

pub returns-clause-gone_on : goal.returns-clause-gone_on
returns-clause-gone_on c = c.loop-k.invariant.0

pub returns-clause-by_index : goal.returns-clause-by_index
returns-clause-by_index c k l p = none_of_zero k c.in_default.ensures.steps.0 ((c.waiting.ensures.each k l).1 p)
