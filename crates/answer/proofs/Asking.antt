-- An accepted query can be asked of one node of a roll, and what its last entry reaches from there is its answer. A curator's query can be
-- asked so too. Assumes nothing.
use Prim.Native.Nat.{ℕ, ◌-◌, ◌≤◌, ◌<◌}
use native.Mathlib.Omega.{arith}
use mathlib.Core.Path.{◌≡◌, refl, sym, subst}
use mathlib.Core.Logic.{◌⊎◌, inr, ⊎_elim}
use mathlib.Core.List.{List}
use lib.ListN.{length}
use Rattle.reply.specs.Bytes.{Bytes}
use Rattle.tree.specs.Tree.{Tree}
use Rattle.roll.specs.Roll.{nodes, Roll}
use Rattle.query.specs.Kind.{path}
use Rattle.query.specs.Meaning.{reach}
use Rattle.query.specs.Table.{entries, path_at, query_of, HasSort}
use Rattle.query.specs.Fault.{Limits, curators, answered, last, EntryFits, Query}
use Rattle.query.proofs.Tables.{entries_length}
use Rattle.sets.specs.Sets.{In, Holds, Image}
use Rattle.links.specs.Links.{Siblings}
use Rattle.evaluator.specs.Evaluator.{Grounds, Asked}

module _ {limit : Limits} {query : Bytes} (q : Query limit query) where
  -- there is a last entry
  pub some_entry : 1 ≤ length (entries query)
  some_entry = omega (arith, entries_length query, q.size.some, q.size.size.multiple)

  pub query_grounds : {roll : Bytes} {links : List ℕ} → Roll roll → Siblings (nodes roll) links → Grounds roll query links
  query_grounds r links = record { roll_right = r; linked = links; each = λ i l. (q.entry i l).right }

  module _ {start : ℕ} {none from : List ℕ} (empty : Holds (λ k. ⊥) none) (one : Holds (λ j. In none j ⊎ (start ≡ j)) from) where
    -- the start is the one member
    only : (k : ℕ) → In from k → start ≡ k
    only k x = ⊎_elim (λ y. absurd ((empty.exact k).0 y)) (λ e. e) ((one.exact k).0 x)

    pub query_asked : {roll : Bytes} {n : ℕ} → n ≡ length (entries query) → start < length (nodes roll) → Asked roll query path (n - 1) from
    unfolding last
    query_asked {roll} {n} e l = record {
      entry = record {
        within = omega (arith, some_entry);
        sort = subst (λ (m : ℕ). HasSort (entries query) (m - 1) path) (sym e) q.path;
      };
      nodes_only = λ k x. subst (λ (m : ℕ). m < length (nodes roll)) (only k x) l;
    }

    pub query_reached : (t : Tree) (n : ℕ) {r : List ℕ} → n ≡ length (entries query) → Image (reach t (path_at (entries query) (n - 1))) from r
        → Holds (reach t (query_of (entries query)) start) r
    unfolding query_of
    query_reached t n e a = record {
      exact = λ j. (
        λ x. let (i, y, p) = (a.exact j).0 x in rw (only i y, ← e) p,
        λ p. (a.exact j).1 (start, (one.exact start).1 (inr refl), rw (← e) at p),
      );
    }

-- what a curator may ask may be answered on a roll
pub query_answered : {b : Bytes} → Query curators b → Query answered b
unfolding last
query_answered {b} q = record {
  size = record { some = q.size.some; size = record { multiple = q.size.size.multiple; most = omega (arith, q.size.size.most) } };
  entry = λ i l. let e : EntryFits curators b i = q.entry i l in record { right = e.right; low = omega (arith, e.low) };
  path = q.path;
}
