-- "A query's answer is what it reaches from record 0", as an ascending list. Assumes nothing.
use Prim.Native.Nat.{ℕ, zero, suc, ◌+◌, ◌<◌}
use native.Mathlib.Omega.{arith}
use mathlib.Core.Path.{◌≡◌, subst}
use mathlib.Core.Logic.Iff
use mathlib.Core.Logic.{◌↔◌, ⊎_elim}
use mathlib.Core.Bool.{Bool, true, false}
use mathlib.Core.List.Memᴰ
use mathlib.Core.List.{List, [], ◌∷◌, Memᴰ}
use lib.ListN.{length}
use lib.Dec.{T}
use Rattle.tree.specs.Tree.{Tree, InOrder}
use Rattle.query.specs.Syntax.{Path}
use Rattle.query.specs.Meaning.{reach}
use Rattle.query.proofs.Sets.{has, single}
use Rattle.query.proofs.Deciding.{image, image_node}

-- the members of a set, ascending, each with k added
unfoldable pub members : ℕ → List Bool → List ℕ
members k [] = []
members k (true ∷ s) = k ∷ members (suc k) s
members k (false ∷ s) = members (suc k) s

-- what is listed is in the set
listed_has : (k : ℕ) (s : List Bool) (m : ℕ) → Memᴰ m (members k s) → (i : ℕ) × (m ≡ k + i) × T (has s i)
unfolding members
listed_has k [] m x = absurd (Memᴰ.not-nil x)
listed_has k (true ∷ s) m x =
    ⊎_elim (λ (e : m ≡ k). (0, omega arith, tt)) (λ y. let (i, e, z) = listed_has (suc k) s m y in (suc i, omega arith, z)) (Memᴰ.cases_cons x)
listed_has k (false ∷ s) m x = let (i, e, y) = listed_has (suc k) s m x in (suc i, omega arith, y)

-- what is in the set is listed
has_listed : (k : ℕ) (s : List Bool) (m i : ℕ) → m ≡ k + i → T (has s i) → Memᴰ m (members k s)
unfolding members
has_listed k [] m i e x = absurd x
has_listed k (true ∷ s) m zero e x = let h : m ≡ k = omega arith in Memᴰ.head h
has_listed k (true ∷ s) m (suc i) e x = Memᴰ.tail (has_listed (suc k) s m i (omega arith) x)
has_listed k (false ∷ s) m zero e x = absurd x
has_listed k (false ∷ s) m (suc i) e x = has_listed (suc k) s m i (omega arith) x

pub members_right : (s : List Bool) (k : ℕ) → Memᴰ k (members 0 s) ↔ T (has s k)
members_right s k = (
  λ x. let (i, e, y) = listed_has 0 s k x in let h : i ≡ k = omega arith in subst (λ (j : ℕ). T (has s j)) h y,
  λ x. has_listed 0 s k k (omega arith) x,
)

-- the nodes that a path reaches from record 0
unfoldable pub answer : Tree → Path → List ℕ
unfolding members image single
answer t p = members 0 (image t p (single (length t) 0))

module _ (t : Tree) (o : InOrder t) where
  -- the answer lists what the path reaches
  pub answer_right : (p : Path) → 0 < length t → (k : ℕ) → Memᴰ k (answer t p) ↔ reach t p 0 k
  unfolding answer
  answer_right p l k = Iff.trans (members_right (image t p (single (length t) 0)) k) (image_node t o p 0 l k).exact
