-- The theorem applied to its own result: a view on a view. The inner view is cut out of the outer one, and its filter speaks of that one.
-- Rewriting through the inner view and then through the outer one reaches, from each node visible through both, exactly what the query
-- reaches on the inner view. Assumes nothing.
use Prim.Native.Nat.{ℕ, ◌<◌}
use mathlib.Core.Logic.{◌↔◌}
use lib.ListN.{length}
use Rattle.tree.specs.Tree.{Tree, InOrder}
use Rattle.query.specs.Syntax.{Path, Filter}
use Rattle.query.specs.Meaning.{reach, holds}
use Rattle.view.specs.View.{Position, View}
use Rattle.view.specs.Same.{SameOnView}
use Rattle.view.proofs.Carried.{view_position}
use Rattle.view.proofs.Order.{view_in_order}
use Rattle.theorem.proofs.Rewriting.{rewritten}
use Rattle.theorem.proofs.Theorem.{faithful}

module _ {t : Tree} (o : InOrder t) {Seen : ℕ → Type 0} (dec : (i : ℕ) → Dec (Seen i)) (root : Seen 0)
    (vis : Filter) (right : (i : ℕ) → i < length t → holds t vis i ↔ Seen i) {v : Tree} (view : View t Seen v)
    {Inner : ℕ → Type 0} (inner_dec : (a : ℕ) → Dec (Inner a)) (inner_root : Inner 0)
    (inner_vis : Filter) (inner_right : (a : ℕ) → a < length v → holds v inner_vis a ↔ Inner a) {w : Tree} (inner : View v Inner w) where
  pub faithful_twice : (p : Path) (i a c j : ℕ) → i < length t → Position Seen i a → Position Inner a c
      → reach t (rewritten vis (rewritten inner_vis p)) i j ↔ ((b : ℕ) × (d : ℕ) × (j < length t) × Position Seen j b × Position Inner b d × reach w p c d)
  unfolding SameOnView
  faithful_twice p i a c j l x y =
      let outer = faithful o dec root vis right view (rewritten inner_vis p) i a in
      let within = faithful (view_in_order o dec root view) inner_dec inner_root inner_vis inner_right inner p a c in
      let k : a < length v = view_position view l x in (
        λ r.
            let (b, m, z, r') = (outer j l x).0 r in
            let (d, n, u, r'') = (within b k y).0 r' in
            (b, d, m, z, u, r''),
        λ (b, d, m, z, u, r). (outer j l x).1 (b, m, z, (within b k y).1 (d, view_position view m z, u, r)),
      )
