-- A machine that goes through a text byte by byte and keeps what is open: what each of its states takes next. Assumes nothing.
use Prim.Native.Nat.{ℕ, suc, ◌+◌, ◌-◌, ◌*◌, ◌≤◌, ◌<◌}
use native.Mathlib.Decide.{dec_le, map_dec}
use mathlib.Core.Path.{◌≡◌}
use mathlib.Core.Logic.Dec
use mathlib.Core.Bool.{true, false}
use mathlib.Core.List.{List, [], ◌∷◌}
use lib.Dec.{T, eqb}
use Rattle.reply.specs.Bytes.{Bytes}
use Rattle.query.specs.Syntax.{Path, self, child, parent, next, previous, stay, then, either, star}
use Rattle.query.specs.Syntax.{Filter, labelled, leads, always, never, not, and, or}
use Rattle.text.specs.Promise.{opening}

mutual
  -- Where a path stands: alone, in round brackets as an atom of a path, or as a term of a filter.
  -- In a path two functions say what is made of an item: a sequence, and of this the path. In a filter they make a conjunction of a term,
  -- and of this the filter.
  pub data PathPlace : Type 0 where
    top : PathPlace
    in_round : (Path → Path) → (Path → Path) → PathPlace → PathPlace
    in_filter : (Filter → Filter) → (Filter → Filter) → FilterPlace → PathPlace

  -- Where a filter stands: in square brackets as an atom of a path, or in curly ones as a term of a filter.
  pub data FilterPlace : Type 0 where
    in_square : (Path → Path) → (Path → Path) → PathPlace → FilterPlace
    in_curly : (Filter → Filter) → (Filter → Filter) → FilterPlace → FilterPlace

-- An item is wanted, or has been read; a term is wanted, or has been read as part of a conjunction; a label is wanted, or has been read so
-- far.
pub data State : Type 0 where
  item : (Path → Path) → (Path → Path) → PathPlace → State
  item_read : (Path → Path) → (Path → Path) → PathPlace → Path → State
  term : (Filter → Filter) → (Filter → Filter) → FilterPlace → State
  term_read : (Filter → Filter) → FilterPlace → Filter → State
  hash : (Filter → Filter) → (Filter → Filter) → FilterPlace → State
  label : ℕ → (Filter → Filter) → (Filter → Filter) → FilterPlace → State

-- What may come next: nothing, the end of the text of a path, a byte, or a digit that goes on a label.
pub data Offers : Type 0 where
  nothing : Offers
  ends : Path → Offers
  on : ℕ → State → Offers → Offers
  digit : ℕ → (ℕ → State) → Offers → Offers

-- The byte is a digit, and behind the digits of l it makes a label.
pub record Digit (l c : ℕ) : Type 0 where
  pub least : 48 ≤ c
  pub most : c ≤ 57
  pub some : 1 ≤ 10 * l + (c - 48)
  pub label : 10 * l + (c - 48) ≤ 64

-- whether it is one
unfoldable pub dec_digit : (l c : ℕ) → Dec (Digit l c)
dec_digit l c =
    let value : ℕ = 10 * l + (c - 48) in
    map_dec (λ h. record { least = h.0; most = h.1.0; some = h.1.1.0; label = h.1.1.1 })
    (λ d. (d.least, (d.most, (d.some, d.label))))
    (Dec.and (dec_le 48 c) (Dec.and (dec_le c 57) (Dec.and (dec_le 1 value) (dec_le value 64))))

-- What a byte, or the end of the text, comes to.
pub data Next : Type 0 where
  stuck : Next
  goes : State → Next
  finished : Path → Next

-- what the next byte leads to
abbrev pub look : Offers → Bytes → Next
look nothing b = stuck
look (ends p) [] = finished p
look (ends p) (c ∷ b) = stuck
look (on d σ rest) [] = look rest []
look (on d σ rest) (c ∷ b) = elim (eqb c d) [ true ↦ goes σ | false ↦ look rest (c ∷ b) ]
look (digit l f rest) [] = look rest []
look (digit l f rest) (c ∷ b) = elim (dec_digit l c) [ yes h ↦ goes (f (10 * l + (c - 48))) | no h ↦ look rest (c ∷ b) ]

-- behind a filter stands the bracket that closes it
abbrev pub behind_filter : FilterPlace → Filter → Offers
behind_filter (in_square e t P) f = on 93 (item_read e t P (stay f)) nothing
behind_filter (in_curly o a F) f = on 125 (term_read o F (a f)) nothing

-- or +, which wants another conjunction
abbrev pub behind_conjunction : FilterPlace → Filter → Offers
behind_conjunction F f = on 43 (term (λ g. or f g) (λ g. g) F) (behind_filter F f)

-- or &, which wants another term
abbrev pub behind_term : (Filter → Filter) → FilterPlace → Filter → Offers
behind_term o F f = on 38 (term o (λ g. and f g) F) (behind_conjunction F (o f))

-- behind a path stands the end of the text, the bracket that closes it, or what stands behind a term
abbrev pub behind_path : PathPlace → Path → Offers
behind_path top p = ends p
behind_path (in_round e t P) p = on 41 (item_read e t P p) nothing
behind_path (in_filter o a F) p = behind_term o F (a (leads p))

-- or |, which wants another sequence
abbrev pub behind_sequence : PathPlace → Path → Offers
behind_sequence P p = on 124 (item (λ q. either p q) (λ q. q) P) (behind_path P p)

-- or /, which wants another item
abbrev pub behind_item : (Path → Path) → PathPlace → Path → Offers
behind_item e P p = on 47 (item e (λ q. then p q) P) (behind_sequence P (e p))

-- bytes in front of what else is offered
abbrev pub ons : List (ℕ × State) → Offers → Offers
ons [] rest = rest
ons (x ∷ more) rest = on x.0 x.1 (ons more rest)

-- these bytes alone
abbrev pub bytes : List (ℕ × State) → List ℕ
bytes [] = []
bytes (x ∷ more) = x.0 ∷ bytes more

-- the atoms
abbrev pub atoms : (Path → Path) → (Path → Path) → PathPlace → List (ℕ × State)
atoms e t P =
    (46, item_read e t P self)
    ∷ (118, item_read e t P child)
    ∷ (94, item_read e t P parent)
    ∷ (62, item_read e t P next)
    ∷ (60, item_read e t P previous)
    ∷ (91, term (λ f. f) (λ f. f) (in_square e t P))
    ∷ (40, item (λ p. p) (λ p. p) (in_round e t P))
    ∷ []

-- the terms that are no paths
abbrev pub terms : (Filter → Filter) → (Filter → Filter) → FilterPlace → List (ℕ × State)
terms o a F =
    (33, term o (λ f. a (not f)) F)
    ∷ (116, term_read o F (a always))
    ∷ (102, term_read o F (a never))
    ∷ (35, hash o a F)
    ∷ (123, term (λ f. f) (λ f. f) (in_curly o a F))
    ∷ []

-- what a state offers
abbrev pub offer : State → Offers
offer (item e t P) = ons (atoms e t P) nothing
offer (item_read e t P p) = on 42 (item_read e t P (star p)) (behind_item e P (t p))
offer (term o a F) = ons (terms o a F) (ons (atoms (λ p. p) (λ p. p) (in_filter o a F)) nothing)
offer (term_read o F f) = behind_term o F f
offer (hash o a F) = digit 0 (λ l. label l o a F) nothing
offer (label l o a F) = digit l (λ m. label m o a F) (behind_term o F (a (labelled l)))

-- how many brackets are open at a place
abbrev mutual
  pub path_depth : PathPlace → ℕ
  path_depth top = 0
  path_depth (in_round e t P) = suc (path_depth P)
  path_depth (in_filter o a F) = filter_depth F

  pub filter_depth : FilterPlace → ℕ
  filter_depth (in_square e t P) = suc (path_depth P)
  filter_depth (in_curly o a F) = suc (filter_depth F)

-- and in a state
abbrev pub depth : State → ℕ
depth (item e t P) = path_depth P
depth (item_read e t P p) = path_depth P
depth (term o a F) = filter_depth F
depth (term_read o F f) = filter_depth F
depth (hash o a F) = filter_depth F
depth (label l o a F) = filter_depth F

-- where a text begins
abbrev pub start : State
start = item (λ p. p) (λ p. p) top

-- From one state and unread text the machine comes to others, and opens no bracket while `limit` are open.
pub data Moves (limit : ℕ) : State → Bytes → State → Bytes → Type 0 where
  stays : {σ : State} {b : Bytes} → Moves limit σ b σ b
  moves : {σ τ ω : State} {c : ℕ} {b more : Bytes} → look (offer σ) (c ∷ b) ≡ goes τ → (T (opening c) → depth σ < limit)
      → Moves limit τ b ω more → Moves limit σ (c ∷ b) ω more
