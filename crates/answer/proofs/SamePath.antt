-- Two tables of one path have the same answers on every roll: call 3 comes out for both in one way. Assumes nothing.
use mathlib.Core.Path.{◌≡◌}
use Rattle.reply.specs.Reply.{Said}
use Rattle.reply.specs.Bytes.{Bytes}
use Rattle.reply.proofs.Checking.{outcome_as, in_turn_as}
use Rattle.query.specs.Table.{entries, query_of}
use Rattle.query.specs.Fault.{answered, Query}
use Rattle.query.proofs.Unique.{query_wrong}
use Rattle.answer.specs.Promise.{Answered}
use Rattle.answer.proofs.Unique.{answered_one}

-- what is answered for the one table is answered for the other
pub same_path_answers : (roll query other before : Bytes) {s u : Said} {x y : Bytes} → Query answered query → Query answered other
    → query_of (entries other) ≡ query_of (entries query) → Answered roll query before s x → Answered roll other before u y
    → (s ≡ u) × (x ≡ y)
unfolding Answered
same_path_answers roll query other before right right' same a b =
    answered_one roll query before a
    (outcome_as
    (λ both. (both.0, right))
    (in_turn_as (λ n p fault. absurd (query_wrong answered other n p fault right')))
    (λ c after given. rw same at given)
    b)
