-- "The view is itself a node table of the form above": what call 4 writes is a roll of as many nodes as it counts, so call 1 accepts it.
-- View positions and visible nodes correspond one to one, in order. And every roll has a view, which its table tells apart from any other.
-- Assumes nothing.
use Prim.Native.Nat.{ℕ, zero, suc, ◌*◌, ◌≤◌, ◌<◌}
use native.Mathlib.Omega.{arith}
use mathlib.Core.Path.{◌≡◌, sym, ap, ◌∙◌}
use mathlib.Core.Logic.{◌↔◌}
use lib.ListN.{length, take}
use lib.Seq.{take_at}
use Rattle.reply.specs.Reply.{count}
use Rattle.reply.specs.Bytes.{Bytes}
use Rattle.reply.specs.Outcome.{done}
use Rattle.tree.specs.Tree.{Label, Tree, label_at, parent_at, InOrder}
use Rattle.tree.proofs.Order.{parent_smaller}
use Rattle.roll.specs.Roll.{nodes, node_bytes, ParentRule, Roll}
use Rattle.roll.specs.Promise.{RollChecked}
use Rattle.roll.proofs.Back.{node_bytes_length, nodes_back, second_zero}
use Rattle.roll.proofs.Checking.{roll_counted}
use Rattle.roll.proofs.Deciding.{roll_in_order, roll_root, roll_most}
use Rattle.query.specs.Table.{entries}
use Rattle.view.specs.Annotation.{rules}
use Rattle.view.specs.Visible.{Visible, root}
use Rattle.view.specs.View.{Position, View}
use Rattle.view.specs.Promise.{Seen, Annotated, ViewGiven, ViewCut}
use Rattle.view.proofs.Deciding.{seen, seen_right, visible_node, dec_visible}
use Rattle.view.proofs.Cutting.{cut_right}
use Rattle.view.proofs.Positions.{before_most, position_unique, position_injective, position_order, position_exists}
use Rattle.view.proofs.Carried.{view_node, view_position}
use Rattle.view.proofs.Order.{view_root, view_in_order}

-- Each visible node below n has one view position below c, each of those has one node, and both are in one order.
pub record OneToOne (n : ℕ) (Seen : ℕ → Type 0) (c : ℕ) : Type 0 where
  pub position : {i : ℕ} → i < n → Seen i → (k : ℕ) × (k < c) × Position Seen i k
  pub one_position : {i k l : ℕ} → Position Seen i k → Position Seen i l → k ≡ l
  pub node : {k : ℕ} → k < c → (i : ℕ) × (i < n) × Position Seen i k
  pub one_node : {i j k : ℕ} → Position Seen i k → Position Seen j k → i ≡ j
  pub order : {i j k l : ℕ} → Position Seen i k → Position Seen j l → i < j ↔ k < l

module _ {t : Tree} {Seen : ℕ → Type 0} (dec : (i : ℕ) → Dec (Seen i)) {v : Tree} (view : View t Seen v) where
  pub view_matched : OneToOne (length t) Seen (length v)
  view_matched = record {
    position = λ l s. let (k, x) = position_exists dec s in (k, view_position view l x, x);
    one_position = position_unique;
    node = view_node view;
    one_node = position_injective;
    order = position_order;
  }

  module _ (o : InOrder t) (top : Seen 0) (some : 0 < length t) (most : length t ≤ 4096)
      (labels : (i : ℕ) → i < length t → Label (label_at t i)) where
    -- the parents' numbers fit two bytes
    parents_fit : (k : ℕ) → k < length v → parent_at v k < 65536
    parents_fit zero l = omega (arith, view.root)
    parents_fit (suc k) l =
        let few = before_most view.size in
        omega (arith, parent_smaller v (view_in_order o dec top view) (suc k) (omega arith) l)

    -- the view's table is read back as the view
    pub view_back : nodes (node_bytes v) ≡ v
    view_back = nodes_back v parents_fit

    label_right : (k : ℕ) → k < length v → Label (label_at v k)
    label_right k l = let (i, h, x) = view_node view l in rw (view.label h x) (labels i h)

    parent_right : (k : ℕ) → k < length v → ParentRule v k
    unfolding ParentRule InOrder
    parent_right zero l = view.root
    parent_right (suc k) l = view_in_order o dec top view k l

    -- and it is a roll
    pub view_roll : Roll (node_bytes v)
    view_roll =
        let few = before_most view.size in
        let root_there = view_root o dec top view some in
        let bytes = node_bytes_length v in
        record {
          size = record { some = omega arith; size = record { multiple = omega arith; most = omega arith } };
          node = λ k l.
              let inside : k < length v = rw view_back at l in
              record {
                label = rw view_back (label_right k inside);
                second = second_zero v k;
                parent = rw view_back (parent_right k inside);
              };
        }

module _ (roll annotation filters : Bytes) where
  -- the root is visible
  pub root_seen : Seen roll annotation filters 0
  unfolding Seen
  root_seen = root

  module _ (r : Roll roll) where
    -- who is visible on a roll is decided
    pub dec_seen : (i : ℕ) → Dec (Seen roll annotation filters i)
    unfolding Seen
    dec_seen = dec_visible (nodes roll) (rules (entries filters) annotation) (roll_in_order r) (roll_root r)

    -- a visible node is one of the roll's
    pub seen_node : {i : ℕ} → Seen roll annotation filters i → i < length (nodes roll)
    unfolding Seen
    seen_node = visible_node (nodes roll) (rules (entries filters) annotation) (roll_in_order r) (roll_root r)

    -- a roll has a view
    pub view_exists : (v : Tree) × View (nodes roll) (Seen roll annotation filters) v
    unfolding Seen
    view_exists =
        let t = nodes roll in
        let given = rules (entries filters) annotation in
        let o = roll_in_order r in
        (_, cut_right t (seen t given) o (Visible t given) (seen_right t given o) root (roll_root r))

    module _ {v : Tree} (view : View (nodes roll) (Seen roll annotation filters) v) where
      labels_right : (i : ℕ) → i < length (nodes roll) → Label (label_at (nodes roll) i)
      labels_right i l = (r.node i l).label

      -- whose table is read back,
      pub seen_view_back : nodes (node_bytes v) ≡ v
      seen_view_back = view_back dec_seen view (roll_in_order r) root_seen (roll_root r) (roll_most r) labels_right

      -- and is a roll
      pub seen_view_roll : Roll (node_bytes v)
      seen_view_roll = view_roll dec_seen view (roll_in_order r) root_seen (roll_root r) (roll_most r) labels_right

  module _ (before : Bytes) (c : ℕ) (after : Bytes) (cut : ViewCut roll annotation filters before (count c) after) where
    -- where call 4 counts, its inputs are right, and it has written
    pub cut_given : (Roll roll × Annotated annotation filters) × ViewGiven roll annotation filters before c after
    unfolding ViewCut
    cut_given = elim cut [ done room right given ↦ (right, given) ]

    -- the view's table, which
    pub cut_front : take (4 * c) after ≡ node_bytes cut_given.1.view
    cut_front =
        let given = cut_given.1 in
        let bytes : length (node_bytes given.view) ≡ 4 * c = omega (arith, node_bytes_length given.view, given.count) in
        ap (take (4 * c)) given.written.bytes ∙ take_at _ _ (4 * c) bytes

    -- is a roll of as many nodes as it has counted,
    pub view_cut_roll : Roll (take (4 * c) after) × (length (nodes (take (4 * c) after)) ≡ c)
    view_cut_roll =
        let (right, given) = cut_given in
        rw cut_front (seen_view_roll right.0 given.is, ap length (seen_view_back right.0 given.is) ∙ sym given.count)

    -- which call 1 accepts with the same count,
    pub view_cut_checked : RollChecked (take (4 * c) after) (count c)
    view_cut_checked =
        let (r, size) = view_cut_roll in
        roll_counted (take (4 * c) after) r.size (sym size) (λ k l. r.node k (omega arith))

    -- and its positions correspond to the visible nodes
    pub view_cut_matched : OneToOne (length (nodes roll)) (Seen roll annotation filters) c
    view_cut_matched = let (right, given) = cut_given in rw given.count (view_matched (dec_seen right.0) given.is)

-- "Two views are equal if their tables are equal byte by byte."
pub same_table : (roll annotation filters roll' annotation' filters' : Bytes) {v w : Tree} → Roll roll → Roll roll'
    → View (nodes roll) (Seen roll annotation filters) v → View (nodes roll') (Seen roll' annotation' filters') w
    → node_bytes v ≡ node_bytes w → v ≡ w
same_table roll annotation filters roll' annotation' filters' r r' view view' same =
    sym (seen_view_back roll annotation filters r view) ∙ ap nodes same ∙ seen_view_back roll' annotation' filters' r' view'
