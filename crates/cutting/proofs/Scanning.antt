-- One scan cuts out the view: it keeps for each record passed its place in the view, so each next record finds the position of its nearest
-- visible ancestor at its parent. Assumes nothing.
use Prim.Native.Nat.{ℕ, suc, ◌+◌, ◌*◌, ◌≤◌, ◌<◌}
use native.Mathlib.Nat.{eq-or-lt_of_le}
use native.Mathlib.Numerals.{add-one}
use native.Mathlib.Omega.{arith}
use mathlib.Core.Path.{◌≡◌, refl, sym, ap, ◌∙◌}
use mathlib.Core.Logic.{◌↔◌, ◌⊎◌, inl, inr, ⊎_elim}
use mathlib.Core.List.{List, [], ◌∷◌, ◌++◌}
use lib.ListN.{length, get_or, set, length-append, get_or-append}
use lib.Seq.{get_or_at, get_or-set_same, get_or-set_other}
use borrow.Author.Count.{below_more}
use Rattle.reply.specs.Bytes.{Bytes}
use Rattle.tree.specs.Tree.{Node, Tree, label_at, parent_at, Child, InOrder}
use Rattle.tree.proofs.Order.{parent_smaller}
use Rattle.roll.specs.Roll.{none, nodes, node_bytes, Roll}
use Rattle.roll.proofs.Records.{count_nodes}
use Rattle.roll.proofs.Deciding.{roll_root}
use Rattle.roll.proofs.Back.{node_bytes_append}
use Rattle.view.specs.View.{Before, start, seen, hidden, Position, Nearest, parent, beyond, View}
use Rattle.view.proofs.Nearest.{nearest_unique, nearest_node, nearest_less}
use Rattle.view.proofs.Positions.{before_most, before_unique, before_monotone, before_counts, position_unique}
use Rattle.std.specs.Borrow.{MutBor}
use Rattle.cutting.specs.declared.Scan.{Scan}
use Rattle.cutting.specs.Scan.{ParentPlace, root, later, Placed, own, above, ViewTo, Scanned, CutOut, NodePut}
use Rattle.cutting.specs.Passing.{Passed, RestKept}
use Rattle.cutting.proofs.Putting.{written_front}

module _ {t : Tree} {Seen : ℕ → Type 0} where
  -- the place of the parent is the position of the nearest visible ancestor
  place_nearest : {k i q : ℕ} → Child t k i → Placed t Seen k q → (p : ℕ) × Nearest t Seen i p × Position Seen p q
  place_nearest {k} c (own x) = (k, parent c x.visible, x)
  place_nearest c (above {p = p} out near x) = (p, beyond c out near, x)

  -- before the first record
  pub nothing_scanned : {places : List ℕ} {room : Bytes} → Scanned t Seen 0 places 0 room
  unfolding node_bytes
  nothing_scanned = record {
    view = [];
    is = record {
      size = start;
      label = λ l x. absurd (omega arith);
      root = λ l. absurd (omega arith);
      parent = λ l x near y. absurd (omega arith);
    };
    count = refl;
    front = refl;
    placed = λ k l. absurd (omega arith);
  }

  -- a record that is passed has its place
  placed_more : {i q : ℕ} (places : List ℕ) → i < length places → Placed t Seen i q → ((k : ℕ) → k < i → Placed t Seen k (get_or places k 0))
      → (k : ℕ) → k < i + 1 → Placed t Seen k (get_or (set places i q) k 0)
  placed_more {i} {q} places inside new so_far =
      below_more (λ (k : ℕ). Placed t Seen k (get_or (set places i q) k 0)) i
      (λ k l. rw (get_or-set_other places i k q 0 (λ e. omega arith)) (so_far k l))
      (rw (get_or-set_same places i q 0 inside) new)

  module _ (top : Seen 0) {i : ℕ} {v : Tree} (so_far : ViewTo t Seen i v) where
    -- a hidden record is not in the view
    view_same : ¬ Seen i → ViewTo t Seen (i + 1) v
    view_same out = record {
      size = rw add-one (hidden out so_far.size);
      label = λ l x. so_far.label (earlier l x.visible) x;
      root = λ l. so_far.root (earlier l top);
      parent = λ l x near y. so_far.parent (earlier l x.visible) x near y;
    }
      where
        earlier : {j : ℕ} → j < i + 1 → Seen j → j < i
        earlier {j} l s = let le : j ≤ i = omega arith in ⊎_elim (λ e. absurd (out (rw e at s))) (λ h. h) (eq-or-lt_of_le le)

    module _ (s : Seen i) (n : Node) where
      -- a visible one is its last node
      at_node : {j k : ℕ} → j < i + 1 → Position Seen j k → (d : Node)
          → ((j < i) × (get_or (v ++ (n ∷ [])) k d ≡ get_or v k d)) ⊎ ((j ≡ i) × (get_or (v ++ (n ∷ [])) k d ≡ n))
      at_node {j} {k} l x d =
          let le : j ≤ i = omega arith in
          ⊎_elim
          (λ e. inr (e, get_or_at v n [] d k (before_unique so_far.size (rw e at x.before))))
          (λ h. inl (h, get_or-append v (n ∷ []) d k (before_counts h x so_far.size)))
          (eq-or-lt_of_le le)

      -- where its fields are right, this is the view of one record more
      view_more : n.label ≡ label_at t i → (i ≡ 0 → n.parent ≡ none)
          → ((p q : ℕ) → Nearest t Seen i p → Position Seen p q → n.parent ≡ q) → ViewTo t Seen (i + 1) (v ++ (n ∷ []))
      unfolding label_at parent_at
      view_more label first field = record {
        size =
            let length_more : length (v ++ (n ∷ [])) ≡ suc (length v) = omega (arith, length-append v (n ∷ [])) in
            rw (add-one i, length_more) (seen s so_far.size);
        label = λ l x.
            ⊎_elim
            (λ (h, e). ap (λ (m : Node). m.label) e ∙ so_far.label h x)
            (λ (e, e'). ap (λ (m : Node). m.label) e' ∙ label ∙ ap (label_at t) (sym e))
            (at_node l x _);
        root = λ l.
            ⊎_elim
            (λ (h, e). ap (λ (m : Node). m.parent) e ∙ so_far.root h)
            (λ (e, e'). ap (λ (m : Node). m.parent) e' ∙ first (sym e))
            (at_node l (record { visible = top; before = start }) _);
        parent = λ {p = p} {q = q} l x near y.
            ⊎_elim
            (λ (h, e). ap (λ (m : Node). m.parent) e ∙ so_far.parent h x near y)
            (λ (e, e'). ap (λ (m : Node). m.parent) e' ∙ field p q (rw e at near) y)
            (at_node l x _);
      }

  module _ (o : InOrder t) (top : Seen 0) {i : ℕ} {places : List ℕ} {c q : ℕ} {room : Bytes}
      (node : i < length t) (inside : i < length places) (so_far : Scanned t Seen i places c room) (place : ParentPlace t places i q) where
    -- behind the root, the parent's place is the position of the nearest visible ancestor
    nearest_place : 0 < i → (p : ℕ) × Nearest t Seen i p × Position Seen p q
    nearest_place z =
        let before : parent_at t i < i = parent_smaller t o i z node in
        elim place as (λ q _. (p : ℕ) × Nearest t Seen i p × Position Seen p q) [
          | root e ↦ absurd (omega arith)
          | later l ↦ place_nearest (record { later = z; node = node; parent = refl }) (so_far.placed (parent_at t i) before)
        ]

    at_root : i ≡ 0 → q ≡ none
    at_root e = elim place as (λ q _. q ≡ none) [ root z ↦ refl | later l ↦ absurd (omega arith) ]

    at_later : (p r : ℕ) → Nearest t Seen i p → Position Seen p r → q ≡ r
    at_later p r near y =
        let l = nearest_less o near in
        let (p', near', x) = nearest_place (omega arith) in
        position_unique x (rw (nearest_unique near near') at y)

    -- a visible record is written, and its place is its position
    pub seen_scanned : {after : Bytes} → Seen i → NodePut c (record { label = label_at t i; parent = q }) room after
        → Scanned t Seen (i + 1) (set places i c) (c + 1) after
    seen_scanned {after} s put = record {
      view = so_far.view ++ (n ∷ []);
      is = view_more top so_far.is s n refl at_root at_later;
      count = omega (arith, so_far.count, length-append so_far.view (n ∷ []));
      front = put.front ∙ rw so_far.front (sym (node_bytes_append so_far.view (n ∷ [])));
      placed = placed_more places inside (own (record { visible = s; before = rw so_far.count so_far.is.size })) so_far.placed;
    }
      where
        n : Node
        n = record { label = label_at t i; parent = q }

    -- a hidden one takes the place of its parent
    pub hidden_scanned : ¬ Seen i → Scanned t Seen (i + 1) (set places i q) c room
    hidden_scanned out =
        let later : ¬ (i ≡ 0) = λ e. out (rw e top) in
        let (p, near, x) = nearest_place (omega arith) in
        record {
          view = so_far.view;
          is = view_same top so_far.is out;
          count = so_far.count;
          front = so_far.front;
          placed = placed_more places inside (above out near x) so_far.placed;
        }

  -- a scan writes no less than before
  pub scanned_grows : {i c d : ℕ} {places places' : List ℕ} {room room' : Bytes}
      → Scanned t Seen i places c room → Scanned t Seen (i + 1) places' d room' → c ≤ d
  scanned_grows {i} x y = rw (x.count, y.count) (before_monotone (omega arith) x.is.size y.is.size)

  -- after the last record it is the view
  pub all_scanned : {v : Tree} → 0 < length t → ViewTo t Seen (length t) v → View t Seen v
  all_scanned some whole = record {
    size = whole.size;
    label = λ l x. whole.label l x;
    root = whole.root some;
    parent = λ x near y. whole.parent (nearest_node near) x near y;
  }

-- it stands in the room that was lent
pub cut_out : {roll : Bytes} {Seen : ℕ → Type 0} {s : Scan} {lent : MutBor Bytes} {after : Bytes} → Roll roll → length roll ≤ length lent.now
    → Passed (nodes roll) Seen (length (nodes roll)) s → RestKept lent s → after ≡ s.room.now
    → CutOut (nodes roll) Seen lent.now s.written after
cut_out {roll} {s = s} {lent} right fits whole rest e =
    let few = before_most whole.is.size in
    let room : 4 * s.written ≤ length lent.now = omega (arith, whole.count, count_nodes roll) in
    rw e (record {
      view = whole.view;
      is = all_scanned (roll_root right) whole.is;
      count = whole.count;
      written = written_front _ _ whole.view s.written whole.count room whole.front rest.behind;
    })

-- the view of one set of nodes is the view of any other that has the same nodes
pub view_as : {t : Tree} {S R : ℕ → Type 0} {v : Tree} → ((k : ℕ) → S k ↔ R k) → View t S v → View t R v
view_as {t} {S} {R} same view = record {
  size = as_before view.size;
  label = λ l x. view.label l (back x);
  root = view.root;
  parent = λ x near y. view.parent (back x) (near_back near) (back y);
}
  where
    as_before : {i k : ℕ} → Before S i k → Before R i k
    as_before start = start
    as_before (seen {i = i} s x) = seen ((same i).0 s) (as_before x)
    as_before (hidden {i = i} n x) = hidden (λ r. n ((same i).1 r)) (as_before x)

    before_back : {i k : ℕ} → Before R i k → Before S i k
    before_back start = start
    before_back (seen {i = i} s x) = seen ((same i).1 s) (before_back x)
    before_back (hidden {i = i} n x) = hidden (λ r. n ((same i).0 r)) (before_back x)

    back : {i k : ℕ} → Position R i k → Position S i k
    back {i} x = record { visible = (same i).1 x.visible; before = before_back x.before }

    near_back : {i p : ℕ} → Nearest t R i p → Nearest t S i p
    near_back (parent {p = p} c s) = parent c ((same p).1 s)
    near_back (beyond {q = q} c n x) = beyond c (λ s. n ((same q).0 s)) (near_back x)
