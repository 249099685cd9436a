-- `pass`, `pass_either`, `go_on` and `go_on_alone`: an arm for each kind, whose operands are asked in their turn; both entries of an either
-- are asked of the same places, one that is named twice once; a star goes by rounds, and where no set is kept for it, with one of its own.
use Prim.Native.Nat.{ℕ, ◌+◌}
use native.Mathlib.Omega.{arith}
use mathlib.Core.Path.{◌≡◌, sym, ap, subst}
use mathlib.Core.Logic.{inr}
use mathlib.Core.List.{List}
use lib.Dec.{T}
use lib.ListN.{length}
use Rattle.tree.proofs.Tests.{test_failed, test_passed}
use Rattle.query.specs.Table.{entries}
use Rattle.sets.specs.Sets.{In, Holds, Inside}
use Rattle.rules.specs.Language.{Expression, Word}
use Rattle.rules.specs.Table.{expression_at}
use Rattle.rules.proofs.Standing.{is_meant}
use Rattle.matching.specs.Settled.{Kept}
use Rattle.matching.proofs.Settling.{pass_none, pass_empty, pass_one, pass_alone, pass_then, pass_either, pass_same, one_cleared, from_cleared}
use Rattle.matching.proofs.Keeping.{Divided, divided, undivided}
use Rattle.matching.proofs.Rounds.{Rounds, found_inside, first_round, next_round, last_round, round_less}
use Rattle.matching.proofs.Passing.{ask_of, led_inside, in_front, in_set}
use Rattle.matching.proofs.Matching.+asking.Goals as goal

-- ---- a star by rounds

-- what is left of places in the word is in the word
taken_inside : {n : ℕ} {set other taken : List ℕ} → Inside n set → Holds (λ k. In set k × ¬ In other k) taken → Inside n taken
taken_inside inside holds k x = inside k ((holds.exact k).0 x).0

-- and so is what is new in a round
fresh_inside : {a : Expression} {w : Word} {kept₀ kept : Kept} {reached₀ first reached found fresh : List ℕ}
    → Rounds a w kept₀ reached₀ first kept reached found fresh → Inside (length w + 1) first → Inside (length w + 1) fresh
fresh_inside rounds inside k x = found_inside rounds inside k (rounds.among k x)

-- at first all is new: it was put to what was reached
pub go_on-loop-fresh-init : goal.go_on-loop-fresh-init
go_on-loop-fresh-init t c = first_round (λ k x. (c.add_front.ensures.exact k).1 (inr x))

pub go_on-is_front_empty-requires : goal.go_on-is_front_empty-requires
go_on-is_front_empty-requires t c =
    in_front c.args.self.now.holds (fresh_inside c.loop-fresh.invariant (taken_inside c.requires.places c.take_front.ensures))

pub go_on-pass-requires : goal.go_on-pass-requires
go_on-pass-requires t c =
    (omega arith, ask_of c.requires.entry (fresh_inside c.loop-fresh.invariant (taken_inside c.requires.places c.take_front.ensures)))

-- a round that had something to go on from
pub go_on-loop-fresh-smaller : goal.go_on-loop-fresh-smaller
go_on-loop-fresh-smaller t c =
    let some = test_failed c.is_front_empty.result c.is_front_empty.ensures c.loop-fresh-test.true in
    let holds = c.args.self.now.holds in
    let new = fresh_inside c.loop-fresh.invariant (taken_inside c.requires.places c.take_front.ensures) in
    let next : Inside (length c.args.self.now.word.now + 1) c.take_front-in-loop-fresh.new.set =
    taken_inside (led_inside c.pass.ensures) c.take_front-in-loop-fresh.ensures in
    round_less (λ k x. ((c.take_front-in-loop-fresh.ensures.exact k).0 x).1) c.add_front-in-loop-fresh.ensures
    (in_set holds next) (in_set holds new) some

pub go_on-loop-fresh-preserved : goal.go_on-loop-fresh-preserved
go_on-loop-fresh-preserved t c =
    next_round c.loop-fresh.invariant c.pass.ensures c.take_front-in-loop-fresh.ensures c.add_front-in-loop-fresh.ensures
    c.add_front-in-loop-fresh-2.ensures

pub go_on-returns : goal.go_on-returns
go_on-returns t c =
    last_round c.take_front.ensures c.add_front.ensures c.loop-fresh.invariant
    (test_passed c.is_front_empty.result c.is_front_empty.ensures c.loop-fresh-test.false) c.requires.places

-- a star that is asked with a set of its own, which has no member
pub go_on_alone-returns : goal.go_on_alone-returns
go_on_alone-returns t c = from_cleared (one_cleared c.empty-reached.ensures) c.go_on.ensures

-- ---- an arm for each kind

pub pass-returns-then-is_front_empty : goal.pass-returns-then-is_front_empty
pass-returns-then-is_front_empty t c = pass_none (c.is_front_empty.ensures.0 (subst T (sym c.if-is_front_empty.true) tt))

-- empty
pub pass-returns-in-Empty : goal.pass-returns-in-Empty
pass-returns-in-Empty t c = rw (is_meant _ _ c.requires.entry c.in-Empty.ensures) (pass_empty c.requires.places)

-- one label
pub pass-returns-in-One : goal.pass-returns-in-One
pass-returns-in-One t c = rw (is_meant _ _ c.requires.entry c.in-One.ensures) (pass_one c.go_over.ensures)

-- one after another
pub pass-returns-in-Then : goal.pass-returns-in-Then
pass-returns-in-Then t c =
    let parts : Divided (expression_at (entries c.args.self.now.rules.now) c.in-Then.left) c.args.kept.now c.share-n.result c.pass.new.kept c.pass-in-Then.new.kept =
    divided _ _ _ c.share-n.ensures c.pass.auto.kept c.pass-in-Then.auto.kept in
    rw (is_meant _ _ c.requires.entry c.in-Then.ensures, parts.back)
    (pass_then _ _ _ _ parts.front parts.all (rw parts.for_first at c.pass.ensures) (rw parts.for_second at c.pass-in-Then.ensures))

-- either
pub pass-returns-in-Either : goal.pass-returns-in-Either
pass-returns-in-Either t c = rw (is_meant _ _ c.requires.entry c.in-Either.ensures) c.pass_either.ensures

-- zero or more
pub pass-returns-in-Some : goal.pass-returns-in-Some
pass-returns-in-Some t c =
    let whole = (c.in-Some.ensures).cases.0 in
    let star = is_meant _ _ c.requires.entry c.in-Star.ensures in
    rw (star, whole) c.go_on.ensures

pub pass-returns-in-None : goal.pass-returns-in-None
pass-returns-in-None t c =
    rw (is_meant _ _ c.requires.entry c.in-Star.ensures) (pass_alone _ (c.in-None.ensures).cases c.go_on_alone.ensures)

-- ---- either of two entries

pub pass_either-returns-then-left-right : goal.pass_either-returns-then-left-right
pass_either-returns-then-left-right t c =
    let parts : Divided (expression_at (entries c.args.self.now.rules.now) c.args.left) c.args.kept.now c.share-n.result c.pass.new.kept
    c.pass-then-left-right.new.kept =
    divided _ _ _ c.share-n.ensures c.pass.auto.kept c.pass-then-left-right.auto.kept in
    rw parts.back
    (pass_either _ _ _ _ parts.front parts.all (rw parts.for_first at c.pass.ensures)
    (rw parts.for_second at c.pass-then-left-right.ensures) c.add_front.ensures)

-- one entry, named twice: the other sets are not lent
pub pass_either-returns-else-left-right : goal.pass_either-returns-else-left-right
pass_either-returns-else-left-right t c =
    let es = entries c.args.self.now.rules.now in
    let parts = undivided (expression_at es c.args.left) c.args.kept.now c.pass.new.kept c.share-n.ensures c.pass.auto.kept in
    let same : c.args.left ≡ c.args.right = omega arith in
    pass_same _ _ _ _ parts.front parts.all (ap (expression_at es) same) (rw parts.for_first at c.pass.ensures)
