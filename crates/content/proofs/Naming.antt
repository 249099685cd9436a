-- The table of rules by labels is filled in record by record. Assumes nothing.
use Prim.Native.Nat.{ℕ, suc, ◌≤◌}
use native.Mathlib.Decide.{ℕ_discrete}
use native.Mathlib.Omega.{arith}
use mathlib.Core.Path.{◌≡◌, refl, sym, ◌∙◌}
use mathlib.Core.List.{List}
use lib.ListN.{length, get_or, set, replicate, length-set, length-replicate, get_or-replicate}
use lib.Seq.{get_or-set_same, get_or-set_other}
use Rattle.std.specs.Prelude.{Option, Some, None}
use Rattle.tree.specs.Tree.{Tree, label_at}
use Rattle.rules.specs.Rules.{entry_named}
use Rattle.content.specs.Content.{NamedBelow, named, unnamed}

-- the table after the first k records
pub record NamedTo (rs : Tree) (k : ℕ) (table : List (Option ℕ)) : Type 0 where
  pub each : (l : ℕ) → l ≤ 64 → NamedBelow rs k l (get_or table l None)
  pub size : length table ≡ 65

module _ {rs : Tree} where
  -- at first no label has a rule
  pub named_none : NamedTo rs 0 (replicate 65 None)
  named_none =
      record {
        each = λ l h. rw (get_or-replicate {A = Option ℕ} 65 l None None (omega arith)) (unnamed (λ k z e. absurd (omega arith)));
        size = length-replicate {A = Option ℕ} 65 None;
      }

  -- what is named by the records before stays named, for any other label
  one_further : {k l : ℕ} {x : Option ℕ} → ¬ (label_at rs k ≡ l) → NamedBelow rs k l x → NamedBelow rs (suc k) l x
  one_further other (named {k = j} h e) = named {k = j} (omega arith) e
  one_further {k} other (unnamed none) =
      unnamed (λ j h e. elim (ℕ_discrete j k) [ yes same ↦ other (rw same at e) | no apart ↦ none j (omega arith) e ])

  -- the next record names the rule of its label
  pub named_more : {k : ℕ} {table : List (Option ℕ)} → label_at rs k ≤ 64 → NamedTo rs k table
      → NamedTo rs (suc k) (set table (label_at rs k) (Some (entry_named rs k)))
  named_more {k} {table} most so_far =
      record {
        each = λ l h.
            elim (ℕ_discrete (label_at rs k) l) [
              | yes same ↦ rw (← same, get_or-set_same table (label_at rs k) (Some (entry_named rs k)) None (omega (arith, so_far.size))) (named {k = k} (omega arith) refl)
              | no other ↦ rw (get_or-set_other table (label_at rs k) l (Some (entry_named rs k)) None (λ e. other (sym e))) (one_further other (so_far.each l h))
            ];
        size = length-set table (label_at rs k) (Some (entry_named rs k)) ∙ so_far.size;
      }
