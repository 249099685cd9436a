-- A test that computes whether bytes are a roll, and what a roll says of its tree. Assumes nothing.
use Prim.Native.Nat.{ℕ, zero, suc, ◌%◌, ◌≤◌, ◌<◌}
use native.Mathlib.Omega.{arith}
use mathlib.Core.Bool.{Bool}
use mathlib.Core.List.{List, [], ◌∷◌}
use lib.Dec.{T, eqb, leb, eqb→eq, leb→le}
use lib.ListN.{length}
use Rattle.reply.specs.Bytes.{Bytes}
use Rattle.tree.specs.Tree.{Tree, label_at, parent_at, InOrder}
use Rattle.tree.proofs.Tests.{all, all_at, every_below, every_below_lem}
use Rattle.tree.proofs.Deciding.{is_above, is_above_lem}
use Rattle.roll.specs.Roll.{none, nodes, second_byte, ParentRule, NodeRight, Roll}
use Rattle.roll.proofs.Records.{count_nodes}

unfoldable pub has_parent : Tree → ℕ → Bool
has_parent t zero = eqb (parent_at t 0) none
has_parent t (suc i) = is_above t i (parent_at t (suc i)) i

has_parent_lem : (t : Tree) (i : ℕ) → T (has_parent t i) → ParentRule t i
unfolding has_parent ParentRule
has_parent_lem t zero h = eqb→eq (parent_at t 0) none h
has_parent_lem t (suc i) h = is_above_lem t i (parent_at t (suc i)) i h

node_tests : Bytes → ℕ → List Bool
node_tests b i = leb 1 (label_at (nodes b) i) ∷ leb (label_at (nodes b) i) 64 ∷ eqb (second_byte b i) 0 ∷ has_parent (nodes b) i ∷ []

is_node : (b : Bytes) (i : ℕ) → T (all (node_tests b i)) → NodeRight b i
unfolding node_tests
is_node b i h =
    let l : ℕ = label_at (nodes b) i in
    let passed = all_at (node_tests b i) h in
    record {
      label = record { least = leb→le 1 l (passed 0); most = leb→le l 64 (passed 1) };
      second = eqb→eq (second_byte b i) 0 (passed 2);
      parent = has_parent_lem (nodes b) i (passed 3);
    }

roll_tests : Bytes → List Bool
roll_tests b = leb 1 (length b) ∷ eqb (length b % 4) 0 ∷ leb (length b) 16384 ∷ every_below (length (nodes b)) (λ i. all (node_tests b i)) ∷ []

unfoldable pub is_roll : Bytes → Bool
unfolding roll_tests node_tests
is_roll b = all (roll_tests b)

pub is_roll_lem : (b : Bytes) → T (is_roll b) → Roll b
unfolding is_roll
is_roll_lem b h =
    let n : ℕ = length b in
    let passed = all_at (roll_tests b) h in
    record {
      size = record { some = leb→le 1 n (passed 0); size = record { multiple = eqb→eq (n % 4) 0 (passed 1); most = leb→le n 16384 (passed 2) } };
      node = λ i l. is_node b i (every_below_lem (length (nodes b)) (λ i. all (node_tests b i)) (passed 3) i l);
    }

-- "So the table is in document order"
pub roll_in_order : {b : Bytes} → Roll b → InOrder (nodes b)
unfolding InOrder ParentRule
roll_in_order r i l = (r.node (suc i) l).parent

-- a roll has a root
pub roll_root : {b : Bytes} → Roll b → 0 < length (nodes b)
roll_root {b} r = omega (arith, count_nodes b)

-- and at most 4,096 nodes
pub roll_most : {b : Bytes} → Roll b → length (nodes b) ≤ 4096
roll_most {b} r = omega (arith, count_nodes b)
