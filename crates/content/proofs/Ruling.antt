-- The list as a table by labels: labels ascend, so a label has one record at most. Assumes nothing.
use Prim.Native.Nat.{ℕ, zero, suc, ◌+◌, ◌-◌, ◌≤◌, ◌<◌}
use native.Mathlib.Decide.{dec_lt}
use native.Mathlib.Omega.{arith}
use mathlib.Core.Path.{◌≡◌, sym, ◌∙◌}
use mathlib.Core.Logic.{◌↔◌}
use mathlib.Core.List.{List}
use lib.ListN.{length}
use Rattle.std.specs.Prelude.{Option, IfSome}
use Rattle.reply.specs.Bytes.{Bytes}
use Rattle.tree.specs.Tree.{Tree, label_at}
use Rattle.query.specs.Table.{entries}
use Rattle.query.proofs.Tables.{entries_length}
use Rattle.rules.specs.Rules.{listed, AboveLast, Rules, word, Allowed}
use Rattle.content.specs.Content.{NamedBelow, named, unnamed, ByLabel, NamesEntries, Obeys}

module _ {rules list : Bytes} (right : Rules rules list) where
  -- a later record has a greater label
  ascending : (k d : ℕ) → suc (k + d) < length (listed list) → label_at (listed list) k < label_at (listed list) (suc (k + d))
  unfolding AboveLast
  ascending k zero l =
      let above = (right.each (suc k) (omega arith)).ascends in
      let same : suc (k + 0) ≡ suc k = omega arith in rw same above
  ascending k (suc d) l =
      let above = (right.each (suc (suc (k + d))) (omega arith)).ascends in
      let before = ascending k d (omega arith) in
      let same : suc (k + suc d) ≡ suc (suc (k + d)) = omega arith in rw same (omega (arith, before, above))

  -- so no two records have one label
  later : {k m : ℕ} → k < m → m < length (listed list) → ¬ (label_at (listed list) k ≡ label_at (listed list) m)
  later {k} {m} l within same =
      let gap = m - suc k in
      let at : suc (k + gap) ≡ m = omega arith in
      let above = ascending k gap (omega arith) in
      omega (arith, rw at at above)

  one_record : {k m : ℕ} → k < length (listed list) → m < length (listed list) → label_at (listed list) k ≡ label_at (listed list) m → k ≡ m
  one_record {k} {m} l h same = go (dec_lt k m) (dec_lt m k)
    where
      go : Dec (k < m) → Dec (m < k) → k ≡ m
      go (yes x) y = absurd (later x h same)
      go (no x) (yes y) = absurd (later y l (sym same))
      go (no x) (no y) = omega arith

  pub few : length (entries rules) ≤ 256
  few = omega (arith, entries_length rules, right.size.of_entries.most)

  -- the list names entries
  pub names_entries : {table : List (Option ℕ)} → ByLabel list table → NamesEntries (entries rules) table
  names_entries by l most = inside (by.each l most)
    where
      inside : {x : Option ℕ} → NamedBelow (listed list) (length (listed list)) l x → IfSome x (λ e. e < length (entries rules))
      inside (named {k = k} h e) = (right.each k h).named
      inside (unnamed none) = tt

  -- a node's children are allowed if they are a word of the entry that its label is named for, where there is such an entry
  module _ {t : Tree} {i : ℕ} where
    pub ruled : {x : Option ℕ} → NamedBelow (listed list) (length (listed list)) (label_at t i) x
        → Obeys (entries rules) x (word t i) ↔ Allowed rules list t i
    ruled (named {k = k} l e) = (
      λ f. record { ruled = λ m h same. let one = one_record l h (e ∙ sym same) in rw (← one) f },
      λ a. a.ruled k l e,
    )
    ruled (unnamed none) = (λ f. record { ruled = λ m h same. absurd (none m h same) }, λ a. tt)
