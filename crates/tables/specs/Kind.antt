-- The code's enum of the kinds: this list says which number each case has, and the numbers in the code are proved to be these.
use Rattle.std.specs.Prelude.{ℕ, ◌≡◌, Option, MatchOption}
use Rattle.std.proofs.Math.Option.{none}
use Rattle.query.specs.Kind.{row_of}
use Rattle.tables.specs.declared.kinds.Kind.{Kind}
use Rattle.tables.specs.declared.kinds.Kind.TheVariants.{Itself, Child, Parent, Next, Previous, Stay, Then, Either, Star, Labelled, Leads, Always, Never, Not, And, Or}

abbrev pub number : Kind → ℕ
number Itself = 1
number Child = 2
number Parent = 3
number Next = 4
number Previous = 5
number Stay = 6
number Then = 7
number Either = 8
number Star = 9
number Labelled = 16
number Leads = 17
number Always = 18
number Never = 19
number Not = 20
number And = 21
number Or = 22

-- the kind with a number, or none where the list of kinds has no such row
abbrev pub Stands : ℕ → Option Kind → Type 0
Stands n kind = MatchOption kind (row_of n ≡ none) (λ k. n ≡ number k)
