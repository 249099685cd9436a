-- `path_entry`: what each kind of path stands for.
use mathlib.Core.Path.{◌≡◌, ◌∙◌}
use Rattle.query.specs.Kind.{path}
use Rattle.query.proofs.Standing.{path_kind}
use Rattle.tables.specs.Kind.{number}
use Rattle.tables.proofs.Found.{found_is}
use Rattle.evaluator.proofs.Left.{itself_left}
use Rattle.evaluator.proofs.Operands.{Read, listed, is_itself, is_child, is_parent, is_next, is_previous, is_stay, is_then, is_either, is_star}
use Rattle.evaluator.proofs.entry.path_entry.Goals as goal
use Rattle.evaluator.proofs.entry.path_entry.Goals.{After-kind_of, After-unwrap-kind}

-- the entry is read
read : (c : After-kind_of) → Read c.args.table.now path c.args.e c.entry_at-entry.result
read c = record { order = c.requires.0; entry = c.requires.1; fields = c.entry_at-entry.ensures }

-- and its kind is found
found : (c : After-unwrap-kind)
    → Read c.args.table.now path c.args.e c.entry_at-entry.result × (c.entry_at-entry.result.kind ≡ number c.unwrap-kind.result)
found c = (
  record { order = c.requires.0; entry = c.requires.1; fields = c.entry_at-entry.ensures },
  found_is c.kind_of.ensures c.unwrap-kind.ensures,
)

pub unwrap-kind-requires : goal.unwrap-kind-requires
unwrap-kind-requires c = listed (read (goal.at.unwrap-kind-requires c).After-kind_of) _ c.kind_of.ensures

pub returns-in-Child : goal.returns-in-Child
returns-in-Child c = let (k, is) = found (goal.at.returns-in-Child c).After-unwrap-kind in is_child k (rw c.in-Child.is at is)

pub returns-in-Parent : goal.returns-in-Parent
returns-in-Parent c = let (k, is) = found (goal.at.returns-in-Parent c).After-unwrap-kind in is_parent k (rw c.in-Parent.is at is)

pub returns-in-Next : goal.returns-in-Next
returns-in-Next c = let (k, is) = found (goal.at.returns-in-Next c).After-unwrap-kind in is_next k (rw c.in-Next.is at is)

pub returns-in-Previous : goal.returns-in-Previous
returns-in-Previous c = let (k, is) = found (goal.at.returns-in-Previous c).After-unwrap-kind in is_previous k (rw c.in-Previous.is at is)

pub returns-in-Stay : goal.returns-in-Stay
returns-in-Stay c = let (k, is) = found (goal.at.returns-in-Stay c).After-unwrap-kind in is_stay k (rw c.in-Stay.is at is)

pub returns-in-Then : goal.returns-in-Then
returns-in-Then c = let (k, is) = found (goal.at.returns-in-Then c).After-unwrap-kind in is_then k (rw c.in-Then.is at is)

pub returns-in-Either : goal.returns-in-Either
returns-in-Either c = let (k, is) = found (goal.at.returns-in-Either c).After-unwrap-kind in is_either k (rw c.in-Either.is at is)

pub returns-in-Star : goal.returns-in-Star
returns-in-Star c = let (k, is) = found (goal.at.returns-in-Star c).After-unwrap-kind in is_star k (rw c.in-Star.is at is)

pub returns-in_default : goal.returns-in_default
returns-in_default c =
    let not = c.in_default in
    let (k, own) = found (goal.at.returns-in_default c).After-unwrap-kind in
    let low = rw (← c.entry_at-entry.ensures.kind, own) at (path_kind _ _ c.requires.1.sort).1 in
    is_itself k
    (own ∙ itself_left c.unwrap-kind.result low not.not-Child not.not-Parent not.not-Next not.not-Previous
    not.not-Stay not.not-Then not.not-Either not.not-Star)
