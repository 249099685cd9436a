-- `go_over`. The loop's invariant: the words passed hold what is behind the places with the label, and the digit over is the next one.
--
use Prim.Native.Nat.{ℕ, ◌+◌, ◌*◌, ◌<◌}
use native.Mathlib.Nat.{le_refl}
use native.Mathlib.Omega.{arith}
use mathlib.Core.Path.{◌≡◌}
use mathlib.Core.Logic.Iff
use mathlib.Core.Logic.{◌↔◌}
use borrow.Author.Rules.{rules}
use mir.Syntax.{w64}
use mir.Val.{Fits}
use borrow.Author.Tests.{tests}
use Rattle.sets.specs.Bits.{digit}
use Rattle.sets.proofs.Keeping.{kept_where}
use Rattle.sets.proofs.Words.{in_word, one_made, front_made, none_above}
use Rattle.matching.specs.Spans.{LabelAt}
use Rattle.matching.proofs.Spanning.{spans_one}
use Rattle.matching.proofs.Moving.{word_moved, word_over}
use Rattle.matching.proofs.label.go_over.Goals as goal
use Rattle.matching.proofs.label.go_over.Invariants.{Labelled}
use Rattle.matching.proofs.label.go_over.Goals.{After-keep-kept}

-- a turn: the digits kept are those of the set where the label stands
abbrev P : After-keep-kept → ℕ → Type 0
P c = Labelled c.args.word.now c.args.label c.args.set.now

kept : (c : After-keep-kept) (k : ℕ) → k < 64 → (digit c.keep-kept.result k ≡ 1) ↔ P c (64 * c.loop-w.w-counter + k)
kept c k l =
    let w = c.loop-w.w-counter in
    let at : ℕ → Type 0 = λ j. LabelAt c.args.word.now c.args.label (64 * w + j) in
    Iff.trans (kept_where at c.keep-kept.ensures (λ j l p. search (rules, tests)) (λ j l p. search (rules, tests)) k l)
    (Iff.and (rw (c.loop-w.invariant.0.rest w (le_refl w)) (in_word c.args.set.now w k l)) Iff.rfl)

pub loop-w-preserved : goal.loop-w-preserved
loop-w-preserved c =
    let (made, over) = c.loop-w.invariant in
    let w = c.loop-w.w-counter in
    let turn = (goal.at.loop-w-preserved c).After-keep-kept in
    let digits = c.keep-kept.result in
    let whole : Fits w64 digits = search rules in (
      one_made made (omega arith) (word_moved (P turn) w digits (kept turn) over),
      word_over (P turn) w digits (kept turn) whole.fits,
    )

pub returns : goal.returns
returns c =
    let moved = front_made _ c.loop-w.invariant.0 (search rules) (omega (arith, c.words_of-w-end.ensures))
    (none_above _ c.requires.inside (λ q (p, next, (x, at)). omega (arith, at.within)))
    (λ q (p, next, (x, at)). omega (arith, at.within, c.words_of-w-end.ensures)) in
    record {
      exact = λ q. Iff.trans (moved.exact q) (
        λ (p, next, (x, at)). (p, x, (spans_one p q).1 (next, at)),
        λ (p, x, s). let (next, at) = (spans_one p q).0 s in (p, next, (x, at)),
      );
    }
