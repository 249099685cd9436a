-- Filters that are told at once.
use Rattle.std.specs.Prelude.{ℕ, ◌≡◌, ◌⊎◌, Bool, true, false}
use Rattle.reply.specs.Bytes.{Bytes}
use Rattle.query.specs.Syntax as syntax
use Rattle.query.specs.Syntax.{Filter, labelled, leads, always, never, and, or}
use Rattle.query.specs.Table.{entries, filter_at}
use Rattle.evaluator.specs.declared.entry.FilterEntry.{FilterEntry}
use Rattle.evaluator.specs.declared.entry.FilterEntry.TheVariants.{Labelled, Leads, Always, Never, Not, And, Or}

-- a filter that asks for a label, or is "true" or "false"
abbrev pub Plain : Filter → Type 0
Plain (labelled l) = Unit {0}
Plain (leads p) = ⊥
Plain always = Unit {0}
Plain never = Unit {0}
Plain (syntax.not f) = ⊥
Plain (and f g) = ⊥
Plain (or f g) = ⊥

-- as it is read
abbrev pub plain : FilterEntry → Bool
plain (Labelled l) = true
plain (Leads p) = false
plain Always = true
plain Never = true
plain (Not f) = false
plain (And f g) = false
plain (Or f g) = false

-- the filter of entry f is told at once
abbrev pub Told : Bytes → ℕ → ℕ → Type 0
Told table known f = (f ≡ known) ⊎ Plain (filter_at (entries table) f)

-- or says that such a one does not hold
pub data AtHand (table : Bytes) (known f : ℕ) : Type 0 where
  itself : Told table known f → AtHand table known f
  denied : {g : ℕ} → filter_at (entries table) f ≡ syntax.not (filter_at (entries table) g) → Told table known g → AtHand table known f
