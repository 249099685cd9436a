-- Call 6 comes out in one way. Assumes nothing.
use mathlib.Core.Path.{◌≡◌}
use Rattle.reply.specs.Reply.{Said}
use Rattle.reply.specs.Bytes.{Bytes}
use Rattle.reply.proofs.Unique.{in_turn_wrong, in_turn_one, outcome_one}
use Rattle.roll.proofs.Unique.{roll_wrong, roll_one}
use Rattle.query.specs.Fault.{curators}
use Rattle.query.proofs.Unique.{query_wrong, query_one}
use Rattle.answer.proofs.Unique.{set_given_one}
use Rattle.view.proofs.Unique.{annotated_wrong, annotated_one, seen_view_one}
use Rattle.curator.specs.Promise.{CuratorAnswered}

pub curator_answered_one : (annotation filters query roll before : Bytes) {s u : Said} {x y : Bytes}
    → CuratorAnswered roll annotation filters query before s x → CuratorAnswered roll annotation filters query before u y
    → (s ≡ u) × (x ≡ y)
unfolding CuratorAnswered
curator_answered_one annotation filters query roll before =
    let wrong = annotated_wrong annotation filters in
    let one = annotated_one annotation filters in
    outcome_one
    (in_turn_wrong (roll_wrong roll) (in_turn_wrong wrong (query_wrong curators query)))
    (in_turn_one (roll_wrong roll) (roll_one roll) (in_turn_one wrong one (query_one curators query)))
    (λ right c d x y a b. set_given_one a.given (simp (seen_view_one annotation filters roll right.0 b.is a.is) at b.given))
