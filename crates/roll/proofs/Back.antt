-- A tree that is written as a node table is read back, where two bytes hold the parents' numbers. Assumes nothing.
use Prim.Native.Nat.{ℕ, zero, suc, ◌+◌, ◌*◌, ◌/◌, ◌%◌, ◌<◌}
use native.Mathlib.Omega.{arith}
use mathlib.Core.Path.{◌≡◌, refl, ap₂}
use mathlib.Core.List.{[], ◌∷◌, ◌++◌}
use lib.ListN.{length}
use Rattle.reply.specs.Bytes.{two, two_bytes}
use Rattle.tree.specs.Tree.{Node, Tree, parent_at}
use Rattle.roll.specs.Roll.{nodes, node_bytes, second_byte}

-- a record is four bytes
pub node_bytes_length : (t : Tree) → length (node_bytes t) ≡ 4 * length t
unfolding node_bytes two_bytes
node_bytes_length [] = refl
node_bytes_length (n ∷ more) = omega (arith, node_bytes_length more)

-- the bytes of two lists of nodes stand behind each other
pub node_bytes_append : (t u : Tree) → node_bytes (t ++ u) ≡ node_bytes t ++ node_bytes u
unfolding node_bytes two_bytes
node_bytes_append [] u = refl
node_bytes_append (n ∷ more) u = rw (node_bytes_append more u)

-- two bytes hold a number below 65,536
two_back : (n : ℕ) → n < 65536 → two (n % 256) (n / 256 % 256) ≡ n
two_back n l = omega arith

-- the table is read back
pub nodes_back : (t : Tree) → ((k : ℕ) → k < length t → parent_at t k < 65536) → nodes (node_bytes t) ≡ t
unfolding nodes node_bytes two_bytes parent_at
nodes_back [] small = refl
nodes_back (n ∷ more) small =
    ap₂ (λ (x : Node) (y : Tree). x ∷ y)
    (λ i. record { label = n.label; parent = two_back n.parent (small 0 (omega arith)) i })
    (nodes_back more (λ k l. small (suc k) (omega arith)))

-- its second bytes are zero
pub second_zero : (t : Tree) (k : ℕ) → second_byte (node_bytes t) k ≡ 0
unfolding node_bytes two_bytes
second_zero [] k = refl
second_zero (n ∷ more) zero = refl
second_zero (n ∷ more) (suc k) =
    let later : 4 * suc k + 1 ≡ suc (suc (suc (suc (4 * k + 1)))) = omega arith in
    rw later (second_zero more k)
