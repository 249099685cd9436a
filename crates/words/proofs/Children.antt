-- The word of a node is gathered child by child: from one child to the next no record adds to it. Assumes nothing.
use Prim.Native.Nat.{ℕ, suc, ◌+◌, ◌≤◌, ◌<◌}
use native.Mathlib.Decide.{dec_lt, le_ind}
use native.Mathlib.Numerals.{add-one}
use native.Mathlib.Omega.{arith}
use mathlib.Core.Path.{◌≡◌, refl, sym, ap, ◌∙◌}
use lib.ListN.{length, take, set, length-append, length-take}
use lib.Seq.{take-suc-set}
use Rattle.reply.specs.Bytes.{Bytes}
use Rattle.tree.specs.Tree.{Tree, label_at, Child}
use Rattle.roll.specs.Roll.{nodes, Roll}
use Rattle.roll.proofs.Records.{no_record}
use Rattle.std.specs.Prelude.{Option}
use Rattle.steps.proofs.Reaching.{place, Waits}
use Rattle.rules.specs.Rules.{word}
use Rattle.rules.proofs.Words.{word_below, word_few, child_adds, other_adds_nothing}
use Rattle.words.specs.Words.{Gathered}

-- what is read for the label of any record is a byte: where there is no record, 0
pub label_small : {roll : Bytes} → Roll roll → (j : ℕ) {l : ℕ} → l ≡ label_at (nodes roll) j → l < 256
label_small {roll} right j read =
    elim (dec_lt j (length (nodes roll))) [
      | yes node ↦ omega (arith, (right.node j node).label)
      | no behind ↦ omega (arith, no_record roll j (omega arith))
    ]

module _ {t : Tree} {i : ℕ} where
  -- up to the child that waits, no record adds anything
  unchanged : {b : ℕ} {r : Option ℕ} → Waits t i b r → word_below t i (place r) ≡ word_below t i b
  unchanged {b} {r} waits =
      le_ind (λ (n : ℕ). n ≤ place r → word_below t i n ≡ word_below t i b) (λ l. refl)
      (λ n g before l. other_adds_nothing t i n (λ c. let first = waits.first n c g in omega arith) ∙ before (omega arith))
      (place r) waits.behind (omega arith)

  -- at first there is no label
  pub gathered_none : {r : Option ℕ} {bytes : Bytes} → Waits t i 0 r → Gathered (word_below t i (place r)) bytes 0
  unfolding word
  gathered_none waits = rw (unchanged waits) (record { size = refl; few = omega arith; front = refl })

  -- a child's label is written behind those of the children before it
  pub gathered_more : {j n : ℕ} {r : Option ℕ} {bytes : Bytes} → length t ≤ 4096 → length bytes ≡ 4096 → Gathered (word_below t i j) bytes n → Child t i j
      → Waits t i (suc j) r → Gathered (word_below t i (place r)) (set bytes n (label_at t j)) (n + 1)
  gathered_more {j} {n} {r} {bytes} most room before c waits =
      let added = unchanged waits ∙ child_adds t i c in
      let size = simp length-append at (ap length added) in
      let few = before.few in
      record {
        size = omega arith;
        few = omega (arith, word_few (take (place r) t) i, length-take (place r) t);
        front = rw (add-one, take-suc-set bytes n (label_at t j) (omega arith), before.front) (sym added);
      }
