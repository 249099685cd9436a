-- Through a faithful query, call 6's answer is found on the roll, with no view cut out on the way: it is the positions of what that query
-- reaches from the root. Assumes nothing.
use Prim.Native.Nat.{ℕ, ◌<◌}
use mathlib.Core.Path.{◌≡◌}
use mathlib.Core.Logic.{◌↔◌}
use mathlib.Core.List.{List}
use lib.ListN.{length}
use Rattle.reply.specs.Reply.{Said, count}
use Rattle.reply.specs.Bytes.{Bytes}
use Rattle.tree.specs.Tree.{Tree}
use Rattle.roll.specs.Roll.{nodes, Roll}
use Rattle.roll.proofs.Deciding.{roll_in_order, roll_root}
use Rattle.query.specs.Syntax.{Path}
use Rattle.query.specs.Meaning.{reach}
use Rattle.query.specs.Table.{entries, query_of}
use Rattle.query.proofs.Inside.{reach_inside}
use Rattle.sets.specs.Sets.{In, Holds, Image}
use Rattle.answer.specs.Given.{BitmapGiven}
use Rattle.answer.proofs.Giving.{given_as}
use Rattle.view.specs.View.{start, Position, View}
use Rattle.view.specs.Same.{SameOnView}
use Rattle.view.specs.Promise.{Seen}
use Rattle.view.proofs.Positions.{position_unique}
use Rattle.view.proofs.Carried.{view_node}
use Rattle.view.proofs.Order.{view_root, view_in_order}
use Rattle.view.proofs.Accepted.{root_seen, dec_seen, view_exists}
use Rattle.rewrite.specs.Promise.{Faithful}
use Rattle.curator.specs.Promise.{ViewAnswered}
use Rattle.curator.proofs.Positions.{turned_as}

module _ (roll annotation filters : Bytes) (p q : Path) (r : Roll roll) (faithful : Faithful annotation filters p q)
    (v : Tree) (view : View (nodes roll) (Seen roll annotation filters) v) where
  -- what p reaches on the roll from the root, which is at position 0
  from_root : (i : ℕ)
      → reach (nodes roll) p 0 i ↔ ((k : ℕ) × (i < length (nodes roll)) × Position (Seen roll annotation filters) i k × reach v q 0 k)
  unfolding Faithful SameOnView
  from_root i = faithful roll v r view 0 0 i (roll_root r) (record { visible = root_seen roll annotation filters; before = start })

  -- what q reaches on the view is the positions of what p reaches on the roll
  pub reached_through : (k : ℕ) → reach v q 0 k ↔ ((i : ℕ) × reach (nodes roll) p 0 i × Position (Seen roll annotation filters) i k)
  reached_through k = (onto, from)
    where
      onto : reach v q 0 k → (i : ℕ) × reach (nodes roll) p 0 i × Position (Seen roll annotation filters) i k
      onto x =
          let dec = dec_seen roll annotation filters r in
          let top = root_seen roll annotation filters in
          let o = roll_in_order r in
          let inside = reach_inside v (view_in_order o dec top view) q (view_root o dec top view (roll_root r)) x in
          let (i, l, at) = view_node view inside in
          (i, (from_root i).1 (k, l, at, x), at)

      from : (i : ℕ) × reach (nodes roll) p 0 i × Position (Seen roll annotation filters) i k → reach v q 0 k
      from (i, x, at) = let (b, l, at', y) = (from_root i).0 x in rw (position_unique at at') y

  -- so a set of what p reaches gives, turned into positions, the set of what q reaches
  set_through : {reached positions : List ℕ} → Holds (reach (nodes roll) p 0) reached
      → Image (Position (Seen roll annotation filters)) reached positions → Holds (reach v q 0) positions
  set_through all turned = record {
    exact = λ k. (
      λ x. let (i, y, at) = (turned.exact k).0 x in (reached_through k).1 (i, (all.exact i).0 y, at),
      λ x. let (i, y, at) = (reached_through k).0 x in (turned.exact k).1 (i, (all.exact i).1 y, at),
    );
  }

-- where the bitmap of those positions is given, call 6's work is done
pub given_through : (roll annotation filters query : Bytes) (p : Path) → Roll roll
    → Faithful annotation filters p (query_of (entries query)) → {shown reached positions : List ℕ} {before after : Bytes} {s : Said}
    → Holds (Seen roll annotation filters) shown → Holds (reach (nodes roll) p 0) reached → Image (Position (In shown)) reached positions
    → BitmapGiven (In positions) before s after → (c : ℕ) × (s ≡ count c) × ViewAnswered roll annotation filters query before c after
given_through roll annotation filters query p r faithful tells all turned given =
    let q = query_of (entries query) in
    let (v, is) = view_exists roll annotation filters r in
    let (c, counted, bitmap) = given_as (set_through roll annotation filters p q r faithful v is all (turned_as tells turned)) given in
    (c, counted, record { view = v; is = is; given = bitmap })
