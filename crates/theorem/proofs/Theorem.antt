-- Demand 3 of document 01, for every tree in document order, every decidable set of nodes that holds the root, and every filter that holds exactly
-- there: the rewritten query does on the tree what the query does on the view. Assumes nothing.
use Prim.Native.Nat.{ℕ, ◌<◌}
use mathlib.Core.Logic.{◌↔◌}
use lib.ListN.{length}
use Rattle.tree.specs.Tree.{Tree, InOrder}
use Rattle.query.specs.Syntax.{Path, Filter}
use Rattle.query.specs.Meaning.{reach, holds}
use Rattle.view.specs.View.{Position, View}
use Rattle.view.specs.Same.{SameOnView}
use Rattle.view.proofs.Positions.{position_injective}
use Rattle.theorem.proofs.Rewriting.{rewritten, rewritten_filter}
use Rattle.theorem.proofs.Induction.{paths_alike, filters_agree}
use Rattle.theorem.proofs.Axes.{Positioned, grounds}

module _ {t : Tree} (o : InOrder t) {Seen : ℕ → Type 0} (dec : (i : ℕ) → Dec (Seen i)) (root : Seen 0)
    (vis : Filter) (right : (i : ℕ) → i < length t → holds t vis i ↔ Seen i) {v : Tree} (view : View t Seen v) where
  -- From every visible node, it reaches exactly what her query reaches on the cut-out view, and no hidden node.
  pub faithful : (p : Path) → SameOnView t Seen v (rewritten vis p) p
  unfolding SameOnView
  faithful p i a j l x = (there, back)
    where
      start : Positioned t Seen i a
      start = record { node = l; position = x }

      there : reach t (rewritten vis p) i j → (b : ℕ) × (j < length t) × Position Seen j b × reach v p a b
      there r =
          let (b, w, m) = (paths_alike vis (grounds o dec root view vis right) p).forth.move start r in
          (b, w.node, w.position, m)

      back : (b : ℕ) × (j < length t) × Position Seen j b × reach v p a b → reach t (rewritten vis p) i j
      back r =
          let (k, w, m) = (paths_alike vis (grounds o dec root view vis right) p).back.move start r.3 in
          rw (position_injective w.position r.2) at m

  -- and a rewritten filter holds at a node exactly where the filter holds on the view at its position
  pub filter_faithful : (f : Filter) {i a : ℕ} → i < length t → Position Seen i a → holds t (rewritten_filter vis f) i ↔ holds v f a
  filter_faithful f {i} {a} l x =
      let both = filters_agree vis (grounds o dec root view vis right) f in
      let start : Positioned t Seen i a = record { node = l; position = x } in
      (both.forth.keep start, both.back.keep start)
