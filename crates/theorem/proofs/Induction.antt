-- Rewriting over all syntax: where the four rewritten axes do on one tree what the axes do on another, every rewritten path and filter does.
-- Assumes nothing.
use Prim.Native.Nat.{ℕ}
use mathlib.Core.Path.{◌≡◌, sym, ◌∙◌}
use Rattle.tree.specs.Tree.{Tree, label_at}
use Rattle.query.specs.Syntax.{Path, self, child, parent, next, previous, stay, then, either, star}
use Rattle.query.specs.Syntax.{Filter, labelled, leads, always, never, not, and, or}
use Rattle.query.specs.Meaning.{holds}
use Rattle.theorem.proofs.Rewriting.{rewritten, rewritten_filter}
use Rattle.theorem.proofs.Simulation.{Simulates, Implies, turned, simulates_self, simulates_stay, simulates_then, simulates_either, simulates_star}
use Rattle.theorem.proofs.Simulation.{implies_leads, implies_not, implies_and, implies_or}

-- Between tied nodes, p on t and q on u lead to tied nodes.
pub record Bisimilar (t u : Tree) (Tied : ℕ → ℕ → Type 0) (p q : Path) : Type 0 where
  pub forth : Simulates t u Tied p q
  pub back : Simulates u t (turned Tied) q p

-- At tied nodes, f on t and g on u both hold or both do not.
pub record Agree (t u : Tree) (Tied : ℕ → ℕ → Type 0) (f g : Filter) : Type 0 where
  pub forth : Implies t u Tied f g
  pub back : Implies u t (turned Tied) g f

-- What the rewriting rests on: tied nodes have one label, and between them each rewritten axis does on t what the axis does on u.
pub record Grounds (t u : Tree) (Tied : ℕ → ℕ → Type 0) (vis : Filter) : Type 0 where
  pub label : {i a : ℕ} → Tied i a → label_at u a ≡ label_at t i
  pub child : Bisimilar t u Tied (rewritten vis Path.child) Path.child
  pub parent : Bisimilar t u Tied (rewritten vis Path.parent) Path.parent
  pub next : Bisimilar t u Tied (rewritten vis Path.next) Path.next
  pub previous : Bisimilar t u Tied (rewritten vis Path.previous) Path.previous

module _ {t u : Tree} {Tied : ℕ → ℕ → Type 0} (vis : Filter) (grounds : Grounds t u Tied vis) where
  mutual
    unfolding rewritten holds

    -- every rewritten path does on t what the path does on u
    pub paths_alike : (p : Path) → Bisimilar t u Tied (rewritten vis p) p
    paths_alike self = record { forth = simulates_self; back = simulates_self }
    paths_alike child = grounds.child
    paths_alike parent = grounds.parent
    paths_alike next = grounds.next
    paths_alike previous = grounds.previous
    paths_alike (stay f) =
        let h = filters_agree f in
        record { forth = simulates_stay h.forth; back = simulates_stay h.back }
    paths_alike (then p q) =
        let h = paths_alike p in
        let k = paths_alike q in
        record { forth = simulates_then h.forth k.forth; back = simulates_then h.back k.back }
    paths_alike (either p q) =
        let h = paths_alike p in
        let k = paths_alike q in
        record { forth = simulates_either h.forth k.forth; back = simulates_either h.back k.back }
    paths_alike (star p) =
        let h = paths_alike p in
        record { forth = simulates_star h.forth; back = simulates_star h.back }

    -- every rewritten filter holds on t where the filter holds on u
    pub filters_agree : (f : Filter) → Agree t u Tied (rewritten_filter vis f) f
    filters_agree (labelled l) =
        record { forth = record { keep = λ z e. grounds.label z ∙ e }; back = record { keep = λ z e. sym (grounds.label z) ∙ e } }
    filters_agree (leads p) =
        let h = paths_alike p in
        record { forth = implies_leads h.forth; back = implies_leads h.back }
    filters_agree always = record { forth = record { keep = λ z h. h }; back = record { keep = λ z h. h } }
    filters_agree never = record { forth = record { keep = λ z h. h }; back = record { keep = λ z h. h } }
    filters_agree (not f) =
        let h = filters_agree f in
        record { forth = implies_not h.back; back = implies_not h.forth }
    filters_agree (and f g) =
        let h = filters_agree f in
        let k = filters_agree g in
        record { forth = implies_and h.forth k.forth; back = implies_and h.back k.back }
    filters_agree (or f g) =
        let h = filters_agree f in
        let k = filters_agree g in
        record { forth = implies_or h.forth k.forth; back = implies_or h.back k.back }
