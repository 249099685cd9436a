-- Sets to which something is added: by its property, in two goes, and nothing at all. Assumes nothing.
use Prim.Native.Nat.{ℕ}
use mathlib.Core.Path.{◌≡◌, sym, subst}
use mathlib.Core.Logic.Iff
use mathlib.Core.Logic.{◌↔◌, ◌⊎◌, inl, inr, ⊎_elim, ⊎_map}
use mathlib.Core.Bool.{Bool, true, false}
use mathlib.Core.List.{List}
use lib.Dec.{T}
use Rattle.sets.specs.Sets.{Holds}
use Rattle.steps.specs.Added.{Added}

-- a property may be put for another that says the same
pub holds_same : {P Q : ℕ → Type 0} {set : List ℕ} → ((k : ℕ) → P k ↔ Q k) → Holds P set → Holds Q set
holds_same same holds = record { exact = λ k. Iff.trans (holds.exact k) (same k) }

pub added_same : {P Q : ℕ → Type 0} {before after : List ℕ} → ((k : ℕ) → P k ↔ Q k) → Added P before after → Added Q before after
added_same same = holds_same (λ k. (⊎_map (λ m. m) (same k).0, ⊎_map (λ m. m) (same k).1))

-- where nothing has the property, the set stays
pub added_nothing : {P : ℕ → Type 0} {set : List ℕ} → ((k : ℕ) → ¬ P k) → Added P set set
added_nothing none = record { exact = λ k. (inl, ⊎_elim (λ m. m) (λ p. absurd (none k p))) }

-- what is added to a set of what has a property
pub holds_more : {P Q R : ℕ → Type 0} {before after : List ℕ} → ((k : ℕ) → (P k ⊎ Q k) ↔ R k) → Holds P before → Added Q before after
    → Holds R after
holds_more same holds added =
    record {
      exact = λ k.
          Iff.trans (added.exact k)
          (Iff.trans (⊎_map (holds.exact k).0 (λ q. q), ⊎_map (holds.exact k).1 (λ q. q)) (same k));
    }

-- what is added in two goes
pub added_more : {P Q R : ℕ → Type 0} {first before after : List ℕ} → ((k : ℕ) → (P k ⊎ Q k) ↔ R k) → Added P first before
    → Added Q before after → Added R first after
added_more same =
    holds_more (λ k. (
      ⊎_elim (⊎_elim inl (λ p. inr ((same k).0 (inl p)))) (λ q. inr ((same k).0 (inr q))),
      ⊎_elim (λ m. inl (inl m)) (λ r. ⊎_elim (λ p. inl (inr p)) inr ((same k).1 r)),
    ))

-- what is added where a test lets it, and what is not where it does not
pub added_where : {P : ℕ → Type 0} {test : Bool} {before after : List ℕ} → test ≡ true → Added P before after → Added (λ k. T test × P k) before after
added_where e = added_same (λ k. (λ p. (subst T (sym e) tt, p), λ (x, p). p))

pub not_added : {P : ℕ → Type 0} {test : Bool} {set : List ℕ} → test ≡ false → Added (λ k. T test × P k) set set
not_added e = added_nothing (λ k (x, p). subst T e x)
