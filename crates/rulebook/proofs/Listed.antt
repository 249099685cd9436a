-- List records: which test decides whether one stands above the one before. Assumes nothing.
use Prim.Native.Nat.{ℕ, zero, suc, ◌-◌}
use native.Mathlib.Omega.{arith}
use mathlib.Core.Path.{◌≡◌, refl}
use lib.Dec.{ltb}
use Rattle.tree.specs.Tree.{Tree, label_at}
use Rattle.tree.proofs.Tests.{Decides, less_test}
use Rattle.rules.specs.Rules.{AboveLast}

module _ (rs : Tree) where
  -- the first record stands above all before it
  pub first_above : {k : ℕ} → k ≡ 0 → AboveLast rs k
  unfolding AboveLast
  first_above e = rw e tt

  -- a test decides whether a later record stands above the one before
  pub above_test : (k : ℕ) {last own : ℕ} → ¬ (k ≡ 0) → last ≡ label_at rs (k - 1) → own ≡ label_at rs k
      → Decides (ltb last own) (AboveLast rs k)
  unfolding AboveLast
  above_test zero later last own = absurd (later refl)
  above_test (suc k) later last own =
      let before : suc k - 1 ≡ k = omega arith in
      rw (last, own, before) (less_test (label_at rs k) (label_at rs (suc k)))
