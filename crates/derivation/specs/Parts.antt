-- Chains and brackets, by their kinds: what is made, of what, and with which bytes.
use Rattle.std.specs.Prelude.{ℕ}
use Rattle.query.specs.Syntax.{Path, then, either, Filter, and, or}
use Rattle.derivation.specs.declared.Chain.{Chain}
use Rattle.derivation.specs.declared.Chain.TheVariants as chain
use Rattle.derivation.specs.declared.Bracket.{Bracket}
use Rattle.derivation.specs.declared.Bracket.TheVariants as bracket

-- paths and sequences are paths, filters and conjunctions filters
abbrev pub Joined : Chain → Type 0
Joined chain.Path = Path
Joined chain.Sequence = Path
Joined chain.Filter = Filter
Joined chain.Conjunction = Filter

-- what joined links make
abbrev pub join : (c : Chain) → Joined c → Joined c → Joined c
join chain.Path = either
join chain.Sequence = then
join chain.Filter = or
join chain.Conjunction = and

-- the byte that joins them: | / + &
abbrev pub joining : Chain → ℕ
joining chain.Path = 124
joining chain.Sequence = 47
joining chain.Filter = 43
joining chain.Conjunction = 38

-- what stands in a bracket
abbrev pub inside : Bracket → Chain
inside bracket.Square = chain.Filter
inside bracket.Round = chain.Path
inside bracket.Curly = chain.Filter

-- the byte that opens a bracket: [ ( {
abbrev pub opening_byte : Bracket → ℕ
opening_byte bracket.Square = 91
opening_byte bracket.Round = 40
opening_byte bracket.Curly = 123

-- the byte that closes it: ] ) }
abbrev pub closing_byte : Bracket → ℕ
closing_byte bracket.Square = 93
closing_byte bracket.Round = 41
closing_byte bracket.Curly = 125
