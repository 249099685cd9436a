-- The worked roll, annotation and filter table are accepted, and who is visible and the view are computed from them. Assumes nothing.
use Prim.Native.Nat.{ℕ, ◌≤◌, ◌<◌}
use native.Mathlib.Nat.{le_trans}
use mathlib.Core.Path.{◌≡◌, refl, sym}
use mathlib.Core.Logic.{◌↔◌}
use mathlib.Core.Bool.{Bool, false}
use mathlib.Core.List.{List}
use lib.Dec.{T, leb→le}
use lib.ListN.{length, get_or}
use Rattle.reply.specs.Bytes.{two_bytes}
use Rattle.reply.specs.Outcome.{done}
use Rattle.tree.specs.Tree.{Tree, label_at, parent_at, InOrder}
use Rattle.tree.proofs.Tests.{all, every_below}
use Rattle.tree.proofs.Deciding.{is_above}
use Rattle.roll.specs.Roll.{nodes, node_bytes, Roll}
use Rattle.roll.proofs.Deciding.{is_roll, is_roll_lem, has_parent, roll_in_order, roll_root}
use Rattle.query.specs.Table.{entries, entry_bytes, read_on, meanings, mean, build, filter_at, filter_in, path_in, the_path, the_filter}
use Rattle.query.specs.Kind.{kinds, find}
use Rattle.answer.specs.Promise.{Answered}
use Rattle.answer.proofs.Unique.{answered_one}
use Rattle.answer.proofs.Asking.{query_answered}
use Rattle.view.specs.Annotation.{Rule, records, rules}
use Rattle.view.specs.Visible.{root}
use Rattle.view.specs.Promise.{Seen, Annotated, ViewGiven, ViewCut}
use Rattle.view.proofs.Deciding.{seen, seen_right, dec_visible}
use Rattle.view.proofs.Cutting.{rank, climb, parent_in_view, node_in_view, cut, cut_right}
use Rattle.view.proofs.Unique.{view_cut_one}
use Rattle.view.proofs.Order.{view_root, view_in_order, view_unique}
use Rattle.curator.specs.Promise.{CuratorAnswered}
use Rattle.curator.proofs.Unique.{curator_answered_one}
use Rattle.cases.specs.Worked.{roll, annotation, filters}
use Rattle.cases.specs.Cases.{InFront, IsView, Cuts}
use Rattle.cases.proofs.Accepted.{is_annotated, is_annotated_lem}
use Rattle.cases.proofs.Outcomes.{comes_out, front, Asked}

-- the bytes of the worked roll are a roll
pub worked_roll : Roll roll
unfolding is_roll all every_below has_parent is_above nodes node_bytes two_bytes label_at parent_at roll
worked_roll = is_roll_lem roll tt

-- and those of the annotation and the filter table are accepted
pub worked_annotated : Annotated annotation filters
unfolding is_annotated annotation filters entry_bytes two_bytes
worked_annotated = is_annotated_lem annotation filters tt

-- what the annotation says
unfoldable pub ruling : List Rule
unfolding entries records rules filter_at filter_in the_filter the_path path_in meanings read_on mean build find kinds
ruling = rules (entries filters) annotation

order : InOrder (nodes roll)
order = roll_in_order worked_roll

-- who is visible, computed
unfoldable pub flags : List Bool
unfolding ruling roll annotation filters nodes node_bytes entry_bytes two_bytes label_at parent_at seen
flags = seen (nodes roll) ruling

pub flags_right : (i : ℕ) → i < length (nodes roll) → T (get_or flags i false) ↔ Seen roll annotation filters i
unfolding flags ruling Seen
flags_right i l = seen_right (nodes roll) ruling order i l

seen_or_not : (i : ℕ) → Dec (Seen roll annotation filters i)
unfolding ruling Seen
seen_or_not i = dec_visible (nodes roll) ruling order (roll_root worked_roll) i

-- the view, computed from who is visible
unfoldable pub computed : Tree
unfolding flags cut rank climb node_in_view parent_in_view
computed = cut (nodes roll) flags (length (nodes roll))

pub computed_right : IsView computed
unfolding computed Seen
computed_right = cut_right (nodes roll) flags order (Seen roll annotation filters) flags_right root (roll_root worked_roll)

-- it is no longer than the roll
no_longer : length (node_bytes computed) ≤ length roll
unfolding computed
no_longer = leb→le (length (node_bytes computed)) (length roll) tt

-- call 4 gives it
pub view_cut : Cuts computed
unfolding ViewCut
view_cut = record {
  is = computed_right;
  given = comes_out (InFront (node_bytes computed)) (λ before s u x y. view_cut_one annotation filters roll before) (λ before l.
      let written = front before (node_bytes computed) (le_trans no_longer l) in
      let given : ViewGiven roll annotation filters before (length computed) _ =
      record { view = computed; is = computed_right; count = refl; written = written } in
      (_, done l (worked_roll, worked_annotated) given, written));
}

-- call 6 answers on the view
pub of_curator : Asked IsView (CuratorAnswered roll annotation filters) computed
unfolding Seen CuratorAnswered
of_curator = record {
  order = view_in_order order seen_or_not root computed_right;
  root = view_root order seen_or_not root computed_right (roll_root worked_roll);
  only = λ v w. view_unique order seen_or_not root computed_right w;
  one = λ query before s u x y. curator_answered_one annotation filters query roll before;
  gives = λ asked room given.
      done room (worked_roll, (worked_annotated, asked)) (record { view = computed; is = computed_right; given = given });
}

-- call 3 answers on the roll
pub of_roll : Asked (λ t. t ≡ nodes roll) (Answered roll) (nodes roll)
unfolding Answered
of_roll = record {
  order = order;
  root = roll_root worked_roll;
  only = λ v e. sym e;
  one = λ query before s u x y. answered_one roll query before;
  gives = λ asked room given. done room (worked_roll, query_answered asked) given;
}
