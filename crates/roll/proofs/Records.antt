-- Which bytes of a table are record i, and how many records there are. Assumes nothing.
use Prim.Native.Nat.{ℕ, zero, suc, ◌+◌, ◌*◌, ◌/◌, ◌≤◌, ◌<◌}
use native.Mathlib.Omega.{arith}
use mathlib.Core.Path.{◌≡◌, refl, ap}
use mathlib.Core.List.{[], ◌∷◌}
use lib.ListN.{length, get_or, get_or-eq_default}
use Rattle.reply.specs.Bytes.{Bytes, two}
use Rattle.tree.specs.Tree.{Node, label_at, parent_at}
use Rattle.roll.specs.Roll.{nodes}

-- a record is four bytes; a broken last one does not count
pub count_nodes : (b : Bytes) → length (nodes b) ≡ length b / 4
unfolding nodes
count_nodes [] = refl
count_nodes (x ∷ []) = refl
count_nodes (x ∷ y ∷ []) = refl
count_nodes (x ∷ y ∷ z ∷ []) = refl
count_nodes (x ∷ y ∷ z ∷ w ∷ more) = let h = count_nodes more in omega arith

-- the record that stands in the four bytes from 4 * i on
abbrev record_at : Bytes → ℕ → Node
record_at b i = record { label = get_or b (4 * i) 0; parent = two (get_or b (4 * i + 2) 0) (get_or b (4 * i + 3) 0) }

-- record i stands in the four bytes from 4 * i on
pub record_bytes : (b : Bytes) (i : ℕ) (d : Node) → i < length (nodes b) → get_or (nodes b) i d ≡ record_at b i
unfolding nodes
record_bytes [] i d l = absurd (omega arith)
record_bytes (x ∷ []) i d l = absurd (omega arith)
record_bytes (x ∷ y ∷ []) i d l = absurd (omega arith)
record_bytes (x ∷ y ∷ z ∷ []) i d l = absurd (omega arith)
record_bytes (x ∷ y ∷ z ∷ w ∷ more) zero d l = refl
record_bytes (x ∷ y ∷ z ∷ w ∷ more) (suc i) d l =
    let label : 4 * suc i ≡ suc (suc (suc (suc (4 * i)))) = omega arith in
    let low : 4 * suc i + 2 ≡ suc (suc (suc (suc (4 * i + 2)))) = omega arith in
    let high : 4 * suc i + 3 ≡ suc (suc (suc (suc (4 * i + 3)))) = omega arith in
    rw (high, low, label) (record_bytes more i d (omega arith))

module _ (b : Bytes) (i : ℕ) where
  -- the bytes of a record are bytes of the table
  pub record_inside : i < length (nodes b) → 4 * i + 3 < length b
  record_inside l = omega (arith, count_nodes b)

  -- the first byte of a record is its label
  pub label_byte : i < length (nodes b) → label_at (nodes b) i ≡ get_or b (4 * i) 0
  unfolding label_at
  label_byte l = ap (λ (n : Node). n.label) (record_bytes b i _ l)

  -- the last two bytes of a record are its parent's number
  pub parent_bytes : i < length (nodes b) → parent_at (nodes b) i ≡ two (get_or b (4 * i + 2) 0) (get_or b (4 * i + 3) 0)
  unfolding parent_at
  parent_bytes l = ap (λ (n : Node). n.parent) (record_bytes b i _ l)

  -- behind the last record there is no label and no parent: both are read as 0
  pub no_record : length (nodes b) ≤ i → (label_at (nodes b) i ≡ 0) × (parent_at (nodes b) i ≡ 0)
  unfolding label_at parent_at
  no_record l = (
    ap (λ (n : Node). n.label) (get_or-eq_default (nodes b) _ l),
    ap (λ (n : Node). n.parent) (get_or-eq_default (nodes b) _ l),
  )
