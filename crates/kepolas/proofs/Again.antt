-- A table that is printed, and read from what was printed, has the same answers on every roll and to every curator. Assumes nothing.
use Prim.Native.Nat.{ℕ, ◌*◌, ◌≤◌}
use mathlib.Core.Path.{◌≡◌}
use lib.ListN.{length, take}
use Rattle.reply.specs.Reply.{Said, count}
use Rattle.reply.specs.Bytes.{Bytes}
use Rattle.reply.specs.Outcome.{done}
use Rattle.query.specs.Fault.{curators, Query}
use Rattle.text.specs.Promise.{TextRead}
use Rattle.text.specs.Print.{TablePrinted, same_query}
use Rattle.shortest.proofs.RoundTrip.{round_trip}
use Rattle.answer.specs.Promise.{Answered}
use Rattle.answer.proofs.Asking.{query_answered}
use Rattle.answer.proofs.SamePath.{same_path_answers}
use Rattle.curator.specs.Promise.{CuratorAnswered}
use Rattle.curator.proofs.SamePath.{same_path_curator}

module _ (table room text room' table' : Bytes) (c n : ℕ) (printed : TablePrinted table room (count c) text)
    (read : TextRead (take c text) room' (count n) table') where
  -- what is printed is a query
  given : Query curators table
  unfolding TablePrinted
  given = elim printed [ done enough right work ↦ right.query ]

  -- and what is read has its room
  large : 1536 ≤ length room'
  unfolding TextRead
  large = elim read [ done enough right work ↦ enough ]

  -- call 3
  pub again_answers : (roll before : Bytes) {s u : Said} {x y : Bytes} → Answered roll table before s x
      → Answered roll (take (6 * n) table') before u y → (s ≡ u) × (x ≡ y)
  again_answers roll before a b =
      elim (round_trip.same_answers table room text room' table' c (count n) printed read large) [
        | same_query few query same ↦ same_path_answers roll table _ before (query_answered given) (query_answered query) same a b
      ]

  -- call 6
  pub again_curators : (roll annotation filters before : Bytes) {s u : Said} {x y : Bytes}
      → CuratorAnswered roll annotation filters table before s x
      → CuratorAnswered roll annotation filters (take (6 * n) table') before u y → (s ≡ u) × (x ≡ y)
  again_curators roll annotation filters before a b =
      elim (round_trip.same_answers table room text room' table' c (count n) printed read large) [
        | same_query few query same ↦ same_path_curator annotation filters table _ roll before given query same a b
      ]
