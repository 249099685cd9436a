-- The calls seen from the view: where call 4 counts, the roll shows the view that it has written; call 6 is a call on the view shown, and
-- so is call 3 on the view's table. Assumes nothing.
use Prim.Native.Nat.{ℕ, ◌*◌}
use mathlib.Core.Path.{◌≡◌, subst}
use lib.ListN.{length, take}
use Rattle.reply.specs.Reply.{Said, count}
use Rattle.reply.specs.Bytes.{Bytes}
use Rattle.reply.specs.Outcome.{Outcome}
use Rattle.tree.specs.Tree.{Tree}
use Rattle.roll.specs.Roll.{node_bytes}
use Rattle.roll.proofs.Unique.{roll_wrong}
use Rattle.query.specs.Meaning.{reach}
use Rattle.query.specs.Table.{entries, query_of}
use Rattle.query.specs.Fault.{Limits, curators, answered, Query, QueryFault}
use Rattle.answer.specs.Bitmap.{SetGiven}
use Rattle.answer.specs.Promise.{Answered}
use Rattle.view.specs.Promise.{ViewCut}
use Rattle.view.proofs.Unique.{annotated_wrong, seen_view_one}
use Rattle.view.proofs.Accepted.{seen_view_back, seen_view_roll, cut_given, cut_front}
use Rattle.curator.specs.Promise.{CuratorAnswered}
use Rattle.curator.specs.Demand.{Lent, Shows}
use Rattle.curator.proofs.Alike.{passed, said_otherwise}

-- what a query reaches on a tree from its root
abbrev pub answer : Tree → Bytes → ℕ → Type 0
answer t query = reach t (query_of (entries query)) 0

-- a call that answers the queries within these limits on the tree t, with nothing else to check
abbrev pub AnsweredOn : Tree → Limits → Bytes → Bytes → Said → Bytes → Type 0
AnsweredOn t limit query before = Outcome 512 (Query limit query) (QueryFault limit query) (SetGiven (answer t query) before) before

pub cut_shows : (roll annotation filters : Bytes) {c : ℕ} {cut : Bytes}
    → Lent (length roll) (ViewCut roll annotation filters) (count c) cut
    → (v : Tree) × Shows roll annotation filters v × (take (4 * c) cut ≡ node_bytes v)
cut_shows roll annotation filters {c} {cut} cuts =
    let (right, given) = cut_given roll annotation filters cuts.before c cut cuts.fits in
    let written = cut_front roll annotation filters cuts.before c cut cuts.fits in
    (given.view, record { accepted = right.0; annotated = right.1; is = given.is }, written)

module _ {roll annotation filters : Bytes} {v : Tree} (shows : Shows roll annotation filters v) (query before : Bytes)
    {s : Said} {after : Bytes} where
  -- nothing of the roll, the annotation and the filters is left but the view
  pub on_shown : CuratorAnswered roll annotation filters query before s after → AnsweredOn v curators query before s after
  unfolding CuratorAnswered
  on_shown answers =
      said_otherwise
      (λ c x given.
      subst (λ (t : Tree). SetGiven (answer t query) before c x) (seen_view_one annotation filters roll shows.accepted given.is shows.is)
      given.given)
      (passed (annotated_wrong annotation filters) shows.annotated (passed (roll_wrong roll) shows.accepted answers))

  pub on_table : Answered (node_bytes v) query before s after → AnsweredOn v answered query before s after
  unfolding Answered
  on_table answers =
      said_otherwise
      (λ c x given. rw (seen_view_back roll annotation filters shows.accepted shows.is) at given)
      (passed (roll_wrong (node_bytes v)) (seen_view_roll roll annotation filters shows.accepted shows.is) answers)
