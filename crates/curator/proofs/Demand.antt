-- Demand 3 holds of whatever fits the promises of calls 3 to 6. Assumes nothing.
use Prim.Native.Nat.{ℕ, ◌*◌, ◌<◌}
use native.Mathlib.Omega.{arith}
use mathlib.Core.Path.{◌≡◌, sym, ◌∙◌, subst}
use mathlib.Core.Logic.Iff
use mathlib.Core.Logic.{◌↔◌}
use lib.ListN.{take}
use Rattle.reply.specs.Reply.{Said, count}
use Rattle.reply.specs.Bytes.{Bytes}
use Rattle.reply.specs.Outcome.{done}
use Rattle.tree.specs.Tree.{Tree}
use Rattle.roll.specs.Roll.{nodes, node_bytes, Roll}
use Rattle.roll.proofs.Deciding.{roll_most}
use Rattle.query.specs.Syntax.{Path}
use Rattle.query.specs.Meaning.{reach}
use Rattle.query.specs.Table.{entries, query_of}
use Rattle.query.specs.Fault.{curators, answered}
use Rattle.query.proofs.Unique.{query_wrong, query_one}
use Rattle.answer.specs.Bitmap.{bit, SetGiven}
use Rattle.answer.specs.Promise.{Answered}
use Rattle.answer.proofs.Asking.{query_answered}
use Rattle.answer.proofs.Giving.{given_bit}
use Rattle.view.specs.View.{Position}
use Rattle.view.specs.Same.{SameOnView}
use Rattle.view.specs.Promise.{Seen}
use Rattle.view.proofs.Positions.{position_exists}
use Rattle.view.proofs.Accepted.{dec_seen, seen_node, view_exists, same_table}
use Rattle.rewrite.specs.Promise.{Faithful, RewriteGiven}
use Rattle.rewrite.proofs.Given.{table_given}
use Rattle.curator.specs.Promise.{ViewAnswered, CuratorAnswered}
use Rattle.curator.specs.Demand.{Lent, Shows, Alike, Demand3}
use Rattle.curator.proofs.Alike.{worked, given_alike, alike}
use Rattle.curator.proofs.OnView.{answer, cut_shows, on_shown, on_table}
use Rattle.curator.proofs.Through.{reached_through}

-- what call 5 counts is a faithful query
given_faithful : (annotation filters query : Bytes) {n : ℕ} {table : Bytes}
    → Lent 6144 (RewriteGiven annotation filters query) (count n) table
    → Faithful annotation filters (query_of (entries (take (6 * n) table))) (query_of (entries query))
given_faithful annotation filters query {n} {table} rewrites =
    (table_given annotation filters query rewrites.before n table rewrites.fits).1

-- from a visible node such a query reaches visible nodes only
visible_only : (roll annotation filters : Bytes) (p q : Path) (i j : ℕ) → Faithful annotation filters p q → Roll roll
    → Seen roll annotation filters i → reach (nodes roll) p i j → Seen roll annotation filters j
unfolding Faithful SameOnView
visible_only roll annotation filters p q i j faithful r s x =
    let (v, view) = view_exists roll annotation filters r in
    let (a, at) = position_exists (dec_seen roll annotation filters r) s in
    let (b, l, there, y) = (faithful roll v r view i a j (seen_node roll annotation filters r s) at).0 x in
    there.visible

-- where call 3 counts, or call 6, it has given its set
answered_set : (roll query before : Bytes) (c : ℕ) (x : Bytes) → Answered roll query before (count c) x
    → Roll roll × SetGiven (answer (nodes roll) query) before c x
unfolding Answered
answered_set roll query before c x (done room right given) = (right.0, given)

curators_set : (roll annotation filters query before : Bytes) (c : ℕ) (x : Bytes)
    → CuratorAnswered roll annotation filters query before (count c) x → ViewAnswered roll annotation filters query before c x
unfolding CuratorAnswered
curators_set roll annotation filters query before c x (done room right given) = given

-- the bits of call 6 are those of call 3 through the rewritten query, each at its node's position
in_positions : (roll annotation filters query : Bytes) {n c d : ℕ} {table x y : Bytes}
    → Lent 6144 (RewriteGiven annotation filters query) (count n) table
    → Lent 512 (Answered roll (take (6 * n) table)) (count c) x → Lent 512 (CuratorAnswered roll annotation filters query) (count d) y
    → (k : ℕ) → k < 4096 → (bit y k ≡ 1) ↔ ((i : ℕ) × (bit x i ≡ 1) × Position (Seen roll annotation filters) i k)
in_positions roll annotation filters query {n} {c} {d} {table} {x} {y} rewrites answers hers k l =
    let faithful = given_faithful annotation filters query rewrites in
    let (r, set) = answered_set roll (take (6 * n) table) answers.before c x answers.fits in
    let given = curators_set roll annotation filters query hers.before d y hers.fits in
    let through = reached_through roll annotation filters _ _ r faithful given.view given.is k in
    let told : (i : ℕ) → Seen roll annotation filters i → (bit x i ≡ 1) ↔ answer (nodes roll) (take (6 * n) table) i =
    λ i s. given_bit set i (omega (arith, seen_node roll annotation filters r s, roll_most r)) in
    Iff.trans (given_bit given.given k l) (
      λ z. let (i, w, at) = through.0 z in (i, (told i at.visible).1 w, at),
      λ (i, w, at). through.1 (i, (told i at.visible).0 w, at),
    )

-- where two rolls show one view, call 6 is one call
shown_alike : {roll annotation filters roll' annotation' filters' : Bytes} {v w : Tree} (query : Bytes) {s u : Said} {x y : Bytes}
    → Shows roll annotation filters v → Shows roll' annotation' filters' w → node_bytes v ≡ node_bytes w
    → Lent 512 (CuratorAnswered roll annotation filters query) s x → Lent 512 (CuratorAnswered roll' annotation' filters' query) u y
    → Alike s x u y
shown_alike {roll' = roll'} {annotation' = annotation'} {filters' = filters'} query shows shows' same a b =
    let equal = same_table _ _ _ _ _ _ shows.accepted shows'.accepted shows.is shows'.is same in
    let Shows-same = subst (Shows roll' annotation' filters') (sym equal) shows' in
    alike (query_wrong curators query) (query_one curators query) a.room b.room
    (on_shown shows query a.before a.fits)
    (on_shown Shows-same query b.before b.fits)

pub demand_3 : Demand3
demand_3 = record {
  faithful = given_faithful;
  no_hidden = λ roll annotation filters query i j rewrites.
      visible_only roll annotation filters _ _ i j (given_faithful annotation filters query rewrites);
  positions = in_positions;
  on_view = λ roll annotation filters query asks cut hers answers.
      let (v, shows, table) = cut_shows roll annotation filters cut in
      let (m, said, mine) = worked (query_wrong curators query) asks hers.room (on_shown shows query hers.before hers.fits) in
      let on_cut = on_table shows query answers.before (rw table at answers.fits) in
      let (n, said', other) = worked (query_wrong answered query) (query_answered asks) answers.room on_cut in
      rw (said, said') (given_alike mine other);
  equal_views = shown_alike;
  equal_cuts = λ roll annotation filters roll' annotation' filters' query cuts cuts' same.
      let (v, shows, table) = cut_shows roll annotation filters cuts in
      let (w, shows', table') = cut_shows roll' annotation' filters' cuts' in
      shown_alike query shows shows' (sym table ∙ same ∙ table');
}
