-- Two tables of one path have the same answers on every view: call 6 comes out for both in one way. Assumes nothing.
use mathlib.Core.Path.{◌≡◌}
use Rattle.reply.specs.Reply.{Said}
use Rattle.reply.specs.Bytes.{Bytes}
use Rattle.reply.proofs.Checking.{outcome_as, in_turn_as}
use Rattle.query.specs.Table.{entries, query_of}
use Rattle.query.specs.Fault.{curators, Query}
use Rattle.query.proofs.Unique.{query_wrong}
use Rattle.curator.specs.Promise.{CuratorAnswered}
use Rattle.curator.proofs.Unique.{curator_answered_one}

-- what is answered for the one table is answered for the other
pub same_path_curator : (annotation filters query other roll before : Bytes) {s u : Said} {x y : Bytes}
    → Query curators query → Query curators other → query_of (entries other) ≡ query_of (entries query)
    → CuratorAnswered roll annotation filters query before s x → CuratorAnswered roll annotation filters other before u y
    → (s ≡ u) × (x ≡ y)
unfolding CuratorAnswered
same_path_curator annotation filters query other roll before right right' same a b =
    curator_answered_one annotation filters query roll before a
    (outcome_as
    (λ all. (all.0, (all.1.0, right)))
    (in_turn_as (in_turn_as (λ n p fault. absurd (query_wrong curators other n p fault right'))))
    (λ c after a. record { view = a.view; is = a.is; given = rw same at a.given })
    b)
