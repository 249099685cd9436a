-- A node is shown by the row of its pair, and the nodes shown are gathered in document order. Assumes nothing.
use Prim.Native.Nat.{ℕ, ◌<◌}
use native.Mathlib.Omega.{arith}
use mathlib.Core.Path.{◌≡◌, refl, sym, ◌∙◌}
use mathlib.Core.Logic.{◌↔◌}
use mathlib.Core.List.{List, []}
use Rattle.std.specs.Prelude.{Option, Some, None, slice_index_or}
use lib.ListN.{length}
use Rattle.tree.specs.Tree.{Tree, parent_at, Child}
use Rattle.sets.specs.Sets.{In, Holds}
use Rattle.visible.proofs.Indexing.{none_some, some_one}
use Rattle.visible.specs.Shown.{row_of, Shown, root, answered, inherited, ShownTo}

module _ (t : Tree) (index : List (Option ℕ)) (answers : List (List ℕ)) where
  -- what the index says of the pair of i and its parent
  abbrev pub row_at : ℕ → Option ℕ
  row_at i = row_of t index (parent_at t i) i

  -- a node that is shown is one of the tree's
  pub shown_node : 0 < length t → {i : ℕ} → Shown t index answers i → i < length t
  shown_node some root = some
  shown_node some (answered c e m) = c.node
  shown_node some (inherited c e s) = c.node

  -- the row of a child is that of its parent's pair with it
  row_same : {p i : ℕ} {v : Option ℕ} → Child t p i → row_of t index p i ≡ v → row_at i ≡ v
  row_same c e = rw c.parent e

  -- what it takes to be shown, by the row of the pair
  by_parent : {i : ℕ} → 0 < i → row_at i ≡ None → Shown t index answers i → Shown t index answers (parent_at t i)
  by_parent later row root = absurd (omega arith)
  by_parent later row (answered c e m) = absurd (none_some (sym row ∙ row_same c e))
  by_parent later row (inherited c e s) = rw c.parent s

  by_answer : {i r : ℕ} → 0 < i → row_at i ≡ Some r → Shown t index answers i → In (slice_index_or answers r []) i
  by_answer later row root = absurd (omega arith)
  by_answer {r = r} later row (answered {r = s} c e m) = let same : s ≡ r = some_one (sym (row_same c e) ∙ row) in rw same at m
  by_answer later row (inherited c e s) = absurd (none_some (sym (row_same c e) ∙ row))

  module _ {i : ℕ} (later : 0 < i) (node : i < length t) where
    own_child : Child t (parent_at t i) i
    own_child = record { later = later; node = node; parent = refl }

    -- with no record, i is shown as its parent is
    pub shown_inherited : row_at i ≡ None → Shown t index answers (parent_at t i) ↔ Shown t index answers i
    shown_inherited row = (inherited own_child row, by_parent later row)

    -- with a record, as that answers
    pub shown_answered : {r : ℕ} → row_at i ≡ Some r → In (slice_index_or answers r []) i ↔ Shown t index answers i
    shown_answered row = (answered own_child row, by_answer later row)

  -- after the last node, all that are shown are gathered
  pub all_shown : 0 < length t → {set : List ℕ} → ShownTo t index answers (length t) set → Holds (Shown t index answers) set
  all_shown some whole = record { exact = λ k. (λ m. ((whole.exact k).0 m).1, λ s. (whole.exact k).1 (shown_node some s, s)) }
