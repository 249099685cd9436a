-- What a step reaches from one node. The children of a node come one by one: the first stands right behind the node, and the link
-- of each leads to the next. A right link leads to the next or the previous sibling. Assumes nothing.
use Prim.Native.Nat.{ℕ, suc, ◌+◌, ◌≤◌, ◌<◌}
use native.Mathlib.Numerals.{add-one}
use native.Mathlib.Decide.{dec_lt}
use native.Mathlib.Omega.{arith}
use mathlib.Core.Path.{◌≡◌, sym, subst, ◌∙◌}
use mathlib.Core.Logic.{◌↔◌, ◌⊎◌, inl, inr, ⊎_elim}
use mathlib.Core.List.{List}
use lib.ListN.{get_or}
use Rattle.tree.specs.Tree.{Tree, Child, Next, InOrder}
use Rattle.tree.proofs.Order.{child_above, above_le, child_less, child_node}
use Rattle.tree.proofs.Siblings.{child_unique}
use Rattle.tree.proofs.Runs.{end, in_run, behind_run, above_child, sibling_or_last, first_child}
use Rattle.std.specs.Prelude.{Option, Some, None}
use Rattle.links.specs.Links.{Link, to, nowhere, LinkIs}
use Rattle.steps.specs.Added.{FirstChild, Leads}

-- where the record of an answer stands: behind all records where there is none
abbrev pub place : Option ℕ → ℕ
place (Some j) = j
place None = 65535

injective : {j k : ℕ} → Some j ≡ Some k → j ≡ k
injective e = cc

-- the answer is the first child of p from b on, if there is one
pub record Waits (t : Tree) (p b : ℕ) (r : Option ℕ) : Type 0 where
  pub child : (j : ℕ) → r ≡ Some j → (j < 4096) × Child t p j
  pub first : (k : ℕ) → Child t p k → b ≤ k → place r ≤ k
  pub behind : b ≤ place r

module _ {t : Tree} (o : InOrder t) where
  -- a node with a child has one right behind it
  child_behind : {i k : ℕ} → Child t i k → Child t i (i + 1)
  child_behind c = rw add-one (first_child t o c)

  -- the record behind a node is its first child, if it is a child
  pub first_behind : {i : ℕ} → Child t i (i + 1) → FirstChild t i (i + 1)
  first_behind c = record { child = c; first = λ k d. let l = child_less t o d in omega arith }

  -- if it is none, there is no first child
  pub no_first : {i : ℕ} → ¬ Child t i (i + 1) → (j : ℕ) → ¬ FirstChild t i j
  no_first none j f = none (child_behind f.child)

  -- at first the first child waits
  pub wait_all : {i : ℕ} (r : Option ℕ) → LinkIs (FirstChild t) i r → Waits t i 0 r
  wait_all {i} (Some j) (l, f) = record { child = λ k e. subst (λ (n : ℕ). (n < 4096) × Child t i n) (injective e) (l, f.child); first = λ k d h. f.first k d; behind = omega arith }
  wait_all {i} None none =
      record {
        child = λ k e. cc;
        first = λ k d h. absurd (none (i + 1) (first_behind (child_behind d)));
        behind = omega arith;
      }

  -- a child without a next sibling is the last
  last : {p j k : ℕ} → Child t p j → ((m : ℕ) → ¬ Next t j m) → Child t p k → ¬ (j < k)
  last {p} {j} {k} c none d l =
      elim (sibling_or_last t o c) [
        | inl n ↦ none (end t j) n
        | inr h ↦
            let inside = behind_run t o k d.node (child_above t d) in
            let under = in_run t o c.node k (omega arith) (omega arith) in
            let high = above_le t o (child_node t o c) (above_child t o d under (omega arith)) in
            let low = child_less t o c in
            omega arith
      ]

  -- behind a child, the one that its link leads to waits
  pub wait_next : {p j : ℕ} (r : Option ℕ) → j < 4096 → Child t p j → LinkIs (Next t) j r → Waits t p (suc j) r
  wait_next {p} {j} (Some m) l c (low, n) =
      let e = child_unique t n.left c in
      record {
        child = λ k same. subst (λ (x : ℕ). (x < 4096) × Child t p x) (injective same) (low, rw e at n.right);
        first = λ k d h.
            elim (dec_lt k m) [
              | yes g ↦ absurd (n.between k h g (rw e d))
              | no g ↦ omega arith
            ];
        behind = n.order;
      }
  wait_next None l c none =
      record {
        child = λ k same. cc;
        first = λ k d h. absurd (last c none d h);
        behind = omega arith;
      }

-- j and the children below it are the children below the next that waits
pub passed : {t : Tree} {p j : ℕ} {r : Option ℕ} → Child t p j → Waits t p (suc j) r
    → (k : ℕ) → ((Child t p k × (k < j)) ⊎ (j ≡ k)) ↔ (Child t p k × (k < place r))
passed {j = j} c waits k =
    let behind = waits.behind in (
      ⊎_elim (λ (d, l). (d, omega arith)) (λ e. (rw e at c, omega arith)),
      λ (d, l).
          elim (dec_lt k j) [
            | yes h ↦ inl (d, h)
            | no h ↦
                inr (elim (dec_lt j k) [
                  | yes g ↦ let f = waits.first k d g in absurd (omega arith)
                  | no g ↦ omega arith
                ])
          ],
    )

-- a right link leads where a relation does that leads to one place only
pub leads : {R : ℕ → ℕ → Type 0} {links : List ℕ} {place i v : ℕ} → Link R i v → get_or links place 65535 ≡ v
    → ((j j' : ℕ) → R i j → R i j' → j ≡ j') → (j : ℕ) → Leads links place j ↔ R i j
leads {v = v} (to l r) e one j =
    (λ h. rw (sym e ∙ h.link) at r, λ s. record { link = e ∙ one v j r s; node = rw (one v j r s) at l })
leads (nowhere none) e one j = (λ h. let l = h.node in absurd (omega (arith, h.link)), λ s. absurd (none j s))
