-- `labelled`. The loop's invariant: the words passed have the members with the label, and the others stand as before.
use Prim.Native.Nat.{ℕ, ◌+◌, ◌*◌}
use native.Mathlib.Nat.{le_refl}
use native.Mathlib.Omega.{arith}
use mathlib.Core.Path.{◌≡◌}
use mathlib.Core.Logic.Iff
use borrow.Author.Rules.{rules}
use borrow.Author.Tests.{tests}
use Rattle.tree.specs.Tree.{label_at}
use Rattle.roll.specs.Roll.{nodes}
use Rattle.sets.proofs.Keeping.{kept_where}
use Rattle.sets.proofs.Words.{none_made, one_made, all_made, in_word, in_below}
use Rattle.steps.proofs.label.labelled.Goals as goal

pub loop-w-init : goal.loop-w-init
loop-w-init c = none_made _

pub loop-w-preserved : goal.loop-w-preserved
loop-w-preserved c =
    let args = c.args in
    let w = c.loop-w.w-counter in
    let before = c.loop-w.invariant in
    let P : ℕ → Type 0 = λ k. label_at (nodes args.roll.now) (64 * w + k) ≡ args.label in
    one_made before (omega arith) (record {
      exact = λ k l. Iff.trans (kept_where P c.keep.ensures (λ k l p. search (rules, tests)) (λ k l p. search (rules, tests)) k l)
          (Iff.and (rw (before.rest w (le_refl _)) (in_word args.from w k l)) Iff.rfl);
    })

pub returns : goal.returns
returns c = all_made c.loop-w.invariant (search rules) (omega arith) (λ k (m, p). in_below _ (search rules) k m)
