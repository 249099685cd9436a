-- A step along one of several axes. Assumes nothing.
use Prim.Native.Nat.{ℕ, ◌<◌}
use mathlib.Core.Logic.{◌↔◌, ◌⊎◌, inl, inr, ⊎_elim}
use lib.Dec.{T}
use lib.ListN.{length}
use Rattle.tree.specs.Tree.{Tree, InOrder}
use Rattle.tree.proofs.Order.{child_node}
use Rattle.steps.specs.declared.axis.Axis.{Axis}
use Rattle.steps.specs.declared.axis.Axis.TheVariants.{Child, Parent, Next, Previous}
use Rattle.steps.specs.declared.axis.Axes.{Axes}
use Rattle.steps.specs.Axis.{Along, takes, AlongAny}

-- what is said of the four of them is said of each
pub each_axis : (P : Axis → Type 0) → P Child → P Parent → P Next → P Previous → (axis : Axis) → P axis
each_axis P child parent next previous Child = child
each_axis P child parent next previous Parent = parent
each_axis P child parent next previous Next = next
each_axis P child parent next previous Previous = previous

module _ (t : Tree) (i j : ℕ) where
  -- the axes of two, taken axis by axis
  pub along_both : {a b r : Axes} → ((axis : Axis) → T (takes r axis) ↔ (T (takes a axis) ⊎ T (takes b axis)))
      → AlongAny t r i j ↔ (AlongAny t a i j ⊎ AlongAny t b i j)
  along_both taken = (
    λ (axis, x, l). ⊎_elim (λ y. inl (axis, y, l)) (λ y. inr (axis, y, l)) ((taken axis).0 x),
    ⊎_elim (λ (axis, x, l). (axis, (taken axis).1 (inl x), l)) (λ (axis, x, l). (axis, (taken axis).1 (inr x), l)),
  )

  -- the four of them, one behind the other
  pub along_each : (axes : Axes)
      → ((((T (takes axes Child) × Along t Child i j) ⊎ (T (takes axes Parent) × Along t Parent i j)) ⊎ (T (takes axes Next) × Along t Next i j))
      ⊎ (T (takes axes Previous) × Along t Previous i j)) ↔ AlongAny t axes i j
  along_each axes = (
    ⊎_elim
        (⊎_elim (⊎_elim (λ x. (Child, x.0, x.1)) (λ x. (Parent, x.0, x.1))) (λ x. (Next, x.0, x.1)))
        (λ x. (Previous, x.0, x.1)),
    λ (axis, x, l). back axis x l,
  )
    where
      back : (axis : Axis) → T (takes axes axis) → Along t axis i j
          → ((((T (takes axes Child) × Along t Child i j) ⊎ (T (takes axes Parent) × Along t Parent i j)) ⊎ (T (takes axes Next) × Along t Next i j))
          ⊎ (T (takes axes Previous) × Along t Previous i j))
      back Child x l = inl (inl (inl (x, l)))
      back Parent x l = inl (inl (inr (x, l)))
      back Next x l = inl (inr (x, l))
      back Previous x l = inr (x, l)

module _ (t : Tree) (o : InOrder t) where
  -- an axis leads from nodes
  along_node : (axis : Axis) (i j : ℕ) → Along t axis i j → i < length t
  along_node Child i j c = child_node t o c
  along_node Parent i j c = c.node
  along_node Next i j x = x.left.node
  along_node Previous i j x = x.right.node

  pub any_node : {axes : Axes} {i j : ℕ} → AlongAny t axes i j → i < length t
  any_node {i = i} {j} (axis, x, l) = along_node axis i j l

  -- and to nodes
  along_end : (axis : Axis) (i j : ℕ) → Along t axis i j → j < length t
  along_end Child i j c = c.node
  along_end Parent i j c = child_node t o c
  along_end Next i j x = x.right.node
  along_end Previous i j x = x.left.node

  pub any_end : {axes : Axes} {i j : ℕ} → AlongAny t axes i j → j < length t
  any_end {i = i} {j} (axis, x, l) = along_end axis i j l
