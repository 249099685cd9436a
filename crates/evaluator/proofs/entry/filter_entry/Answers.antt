-- `filter_entry`: what each kind of filter stands for.
use mathlib.Core.Path.{◌≡◌, ◌∙◌}
use Rattle.query.specs.Kind.{filter}
use Rattle.query.proofs.Standing.{filter_kind}
use Rattle.tables.specs.Kind.{number}
use Rattle.tables.proofs.Found.{found_is}
use Rattle.evaluator.proofs.Left.{never_left}
use Rattle.evaluator.proofs.Operands.{Read, listed, is_labelled, is_leads, is_always, is_never, is_not, is_and, is_or}
use Rattle.evaluator.proofs.entry.filter_entry.Goals as goal
use Rattle.evaluator.proofs.entry.filter_entry.Goals.{After-kind_of, After-unwrap-kind}

-- the entry is read
read : (c : After-kind_of) → Read c.args.table.now filter c.args.e c.entry_at-entry.result
read c = record { order = c.requires.0; entry = c.requires.1; fields = c.entry_at-entry.ensures }

-- and its kind is found
found : (c : After-unwrap-kind)
    → Read c.args.table.now filter c.args.e c.entry_at-entry.result × (c.entry_at-entry.result.kind ≡ number c.unwrap-kind.result)
found c = (
  record { order = c.requires.0; entry = c.requires.1; fields = c.entry_at-entry.ensures },
  found_is c.kind_of.ensures c.unwrap-kind.ensures,
)

pub unwrap-kind-requires : goal.unwrap-kind-requires
unwrap-kind-requires c = listed (read (goal.at.unwrap-kind-requires c).After-kind_of) _ c.kind_of.ensures

pub returns-in-Labelled : goal.returns-in-Labelled
returns-in-Labelled c = let (k, is) = found (goal.at.returns-in-Labelled c).After-unwrap-kind in is_labelled k (rw c.in-Labelled.is at is)

pub returns-in-Leads : goal.returns-in-Leads
returns-in-Leads c = let (k, is) = found (goal.at.returns-in-Leads c).After-unwrap-kind in is_leads k (rw c.in-Leads.is at is)

pub returns-in-Always : goal.returns-in-Always
returns-in-Always c = let (k, is) = found (goal.at.returns-in-Always c).After-unwrap-kind in is_always k (rw c.in-Always.is at is)

pub returns-in-Not : goal.returns-in-Not
returns-in-Not c = let (k, is) = found (goal.at.returns-in-Not c).After-unwrap-kind in is_not k (rw c.in-Not.is at is)

pub returns-in-And : goal.returns-in-And
returns-in-And c = let (k, is) = found (goal.at.returns-in-And c).After-unwrap-kind in is_and k (rw c.in-And.is at is)

pub returns-in-Or : goal.returns-in-Or
returns-in-Or c = let (k, is) = found (goal.at.returns-in-Or c).After-unwrap-kind in is_or k (rw c.in-Or.is at is)

pub returns-in_default : goal.returns-in_default
returns-in_default c =
    let not = c.in_default in
    let (k, own) = found (goal.at.returns-in_default c).After-unwrap-kind in
    let high = rw (← c.entry_at-entry.ensures.kind, own) at (filter_kind _ _ c.requires.1.sort).0 in
    is_never k
    (own ∙ never_left c.unwrap-kind.result high not.not-Labelled not.not-Leads not.not-Always not.not-Not not.not-And not.not-Or)
