-- The machine's states by the kinds of chain and of bracket: where a link is wanted, and what may stand behind it. Assumes nothing.
use Prim.Native.Nat.{ℕ, suc}
use mathlib.Core.Path.{◌≡◌, refl}
use mathlib.Core.List.{◌∷◌}
use lib.Dec.{T}
use Rattle.reply.specs.Bytes.{Bytes}
use Rattle.query.specs.Syntax.{Path, stay, Filter}
use Rattle.text.specs.Promise.{opening}
use Rattle.derivation.specs.declared.Chain.{Chain}
use Rattle.derivation.specs.declared.Chain.TheVariants as chain
use Rattle.derivation.specs.declared.Bracket.{Bracket}
use Rattle.derivation.specs.declared.Bracket.TheVariants as bracket
use Rattle.derivation.specs.Parts.{Joined, join, joining, inside, opening_byte, closing_byte}
use Rattle.derivation.proofs.Machine.{PathPlace, FilterPlace, in_round, in_square, in_curly, State, item, item_read, term, term_read}
use Rattle.derivation.proofs.Machine.{Offers, nothing, on, look, goes, offer, depth, path_depth, filter_depth}
use Rattle.derivation.proofs.Machine.{behind_filter, behind_conjunction, behind_path, behind_sequence}

-- What is around a chain: the place of a path or of a filter; of its links that are chains, also what is made of them there.
abbrev pub Around : Chain → Type 0
Around chain.Path = PathPlace
Around chain.Sequence = (Path → Path) × PathPlace
Around chain.Filter = FilterPlace
Around chain.Conjunction = (Filter → Filter) × FilterPlace

-- the state where a link is wanted, of which f makes so much of the chain
abbrev pub wanted : (c : Chain) → Around c → (Joined c → Joined c) → State
wanted chain.Path P f = item f (λ p. p) P
wanted chain.Sequence a f = item a.0 f a.1
wanted chain.Filter F f = term f (λ g. g) F
wanted chain.Conjunction a f = term a.0 f a.1

-- what may stand behind the chain
abbrev pub behind_chain : (c : Chain) → Around c → Joined c → Offers
behind_chain chain.Path P p = behind_path P p
behind_chain chain.Sequence a p = behind_sequence a.1 (a.0 p)
behind_chain chain.Filter F f = behind_filter F f
behind_chain chain.Conjunction a f = behind_conjunction a.1 (a.0 f)

-- or behind a link of it: the joining byte, which wants another
abbrev pub behind_link : (c : Chain) → Around c → Joined c → Offers
behind_link c a x = on (joining c) (wanted c a (λ y. join c x y)) (behind_chain c a x)

-- how many brackets are open there
abbrev pub around_depth : (c : Chain) → Around c → ℕ
around_depth chain.Path P = path_depth P
around_depth chain.Sequence a = path_depth a.1
around_depth chain.Filter F = filter_depth F
around_depth chain.Conjunction a = filter_depth a.1

-- What is around a bracket: that of an item, or of a term, with what is made of it.
abbrev pub Holder : Bracket → Type 0
Holder bracket.Square = (Path → Path) × (Path → Path) × PathPlace
Holder bracket.Round = (Path → Path) × (Path → Path) × PathPlace
Holder bracket.Curly = (Filter → Filter) × (Filter → Filter) × FilterPlace

-- so it is around what stands in the bracket
abbrev pub held : (k : Bracket) → Holder k → Around (inside k)
held bracket.Square h = in_square h.0 h.1 h.2
held bracket.Round h = in_round h.0 h.1 h.2
held bracket.Curly h = in_curly h.0 h.1 h.2

-- the state where the bracket may open
abbrev pub outside : (k : Bracket) → Holder k → State
outside bracket.Square h = item h.0 h.1 h.2
outside bracket.Round h = item h.0 h.1 h.2
outside bracket.Curly h = term h.0 h.1 h.2

-- and the state behind it
abbrev pub shut : (k : Bracket) → Holder k → Joined (inside k) → State
shut bracket.Square h f = item_read h.0 h.1 h.2 (stay f)
shut bracket.Round h p = item_read h.0 h.1 h.2 p
shut bracket.Curly h f = term_read h.0 h.2 (h.1 f)

-- no joining byte opens a bracket
pub joint_opens_nothing : (c : Chain) → ¬ T (opening (joining c))
unfolding opening
joint_opens_nothing chain.Path = λ t. t
joint_opens_nothing chain.Sequence = λ t. t
joint_opens_nothing chain.Filter = λ t. t
joint_opens_nothing chain.Conjunction = λ t. t

-- nor does one that closes a bracket
pub close_opens_nothing : (k : Bracket) → ¬ T (opening (closing_byte k))
unfolding opening
close_opens_nothing bracket.Square = λ t. t
close_opens_nothing bracket.Round = λ t. t
close_opens_nothing bracket.Curly = λ t. t

-- the byte that opens a bracket does, where it may
pub bracket_opens : (k : Bracket) → T (opening (opening_byte k))
unfolding opening
bracket_opens bracket.Square = tt
bracket_opens bracket.Round = tt
bracket_opens bracket.Curly = tt

pub opened : (k : Bracket) (h : Holder k) (b : Bytes)
    → look (offer (outside k h)) (opening_byte k ∷ b) ≡ goes (wanted (inside k) (held k h) (λ x. x))
opened bracket.Square h b = refl
opened bracket.Round h b = refl
opened bracket.Curly h b = refl

-- with one more open
pub one_deeper : (k : Bracket) (h : Holder k) → around_depth (inside k) (held k h) ≡ suc (depth (outside k h))
one_deeper bracket.Square h = refl
one_deeper bracket.Round h = refl
one_deeper bracket.Curly h = refl

-- and what stands in it may only be closed
pub closes : (k : Bracket) (h : Holder k) (x : Joined (inside k))
    → behind_chain (inside k) (held k h) x ≡ on (closing_byte k) (shut k h x) nothing
closes bracket.Square h x = refl
closes bracket.Round h x = refl
closes bracket.Curly h x = refl
