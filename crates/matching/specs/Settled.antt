-- What is kept of the stars of an expression from one asking to the next, so that no place is gone on from twice.
use Rattle.std.specs.Prelude.{ℕ, ◌+◌, ◌<◌, ◌≤◌, min, ◌≡◌, Bool, ◌||◌, List, [], ◌∷◌, T, eqb, length, get_or, take, drop}
use Rattle.reply.specs.Bytes.{Bytes}
use Rattle.query.specs.Table.{Entries, entries}
use Rattle.sets.specs.Bits.{bit_of}
use Rattle.sets.specs.Sets.{In, Inside}
use Rattle.rules.specs.Language.{Expression, empty, one, then, either, star, Word}
use Rattle.rules.specs.Table.{expression_at}
use Rattle.matching.specs.Spans.{Spans}

-- places in a word, by a test
abbrev pub Places : Type 0
Places = ℕ → Bool

-- those of a set, and those of a set besides
unfoldable pub members : List ℕ → Places
members set k = eqb (bit_of 64 set k) 1

unfoldable pub and_those : Places → List ℕ → Places
and_those A set k = A k || members set k

-- Sets, one for each star.
abbrev pub Kept : Type 0
Kept = List (List ℕ)

-- how many sets are kept for the stars of an expression: one for each, and at most 32
unfoldable pub stars : Expression → ℕ
stars empty = 0
stars (one l) = 0
stars (then a b) = min 32 (stars a + stars b)
stars (either a b) = min 32 (stars a + stars b)
stars (star a) = min 32 (stars a + 1)

-- the numbers of stars of the first i entries, and of all of them
abbrev pub CountedTo : Entries → List ℕ → ℕ → Type 0
CountedTo es counts i = (k : ℕ) → k < i → get_or counts k 0 ≡ stars (expression_at es k)

pub record Counted (es : Entries) (counts : List ℕ) : Type 0 where
  pub long : length es ≤ length counts
  pub each : CountedTo es counts (length es)

-- what is asked: an entry of the table, of a set of places in the word
pub record Asked (rules : Bytes) (e : ℕ) (w : Word) (set : List ℕ) : Type 0 where
  pub entry : e < length (entries rules)
  pub places : Inside (length w + 1) set

-- as many of them as there are go to the first of two operands, the rest to the second
abbrev pub share : Expression → Kept → ℕ
share a kept = min (stars a) (length kept)

-- The expression was asked of the places A, and all that it leads to from there is in G. Of a star, the set that is kept for it has A,
-- is in G, and was gone on from; where none is kept, it is said of the star itself. Either of one and the same is asked once.
pub data Settled (w : Word) : Expression → Kept → Places → Places → Type 0 where
  nothing : {kept : Kept} {A G : Places} → ((p : ℕ) → T (A p) → T (G p)) → Settled w empty kept A G
  one_label : {l : ℕ} {kept : Kept} {A G : Places} → ((p q : ℕ) → T (A p) → Spans (one l) w p q → T (G q)) → Settled w (one l) kept A G
  in_turn : {a b : Expression} {kept : Kept} {A H G : Places} → Settled w a (take (share a kept) kept) A H
      → Settled w b (drop (share a kept) kept) H G → Settled w (then a b) kept A G
  one_of_two : {a b : Expression} {kept : Kept} {A G : Places} → Settled w a (take (share a kept) kept) A G
      → Settled w b (drop (share a kept) kept) A G → Settled w (either a b) kept A G
  same_twice : {a b : Expression} {kept : Kept} {A G : Places} → a ≡ b → Settled w a (take (share a kept) kept) A G
      → Settled w (either a b) kept A G
  alone : {a : Expression} {A G : Places} → ((p q : ℕ) → T (A p) → Spans (star a) w p q → T (G q)) → Settled w (star a) [] A G
  gone_on : {a : Expression} {set : List ℕ} {kept : Kept} {A G : Places} → ((p : ℕ) → T (A p) → In set p) → ((q : ℕ) → In set q → T (G q))
      → Settled w a kept (members set) (members set) → Settled w (star a) (set ∷ kept) A G

-- What asking an expression of a set comes to: places that it leads to from there; together with what was found before, all of them.
pub record Passed (x : Expression) (w : Word) (kept : Kept) (set : List ℕ) (kept_after : Kept) (set_after : List ℕ) : Type 0 where
  pub led : (q : ℕ) → In set_after q → (p : ℕ) × In set p × Spans x w p q
  pub settled : (A G : Places) → Settled w x kept A G → Settled w x kept_after (and_those A set) (and_those G set_after)

-- the first i sets have no member, and all of them
abbrev pub EmptyTo : Kept → ℕ → Type 0
EmptyTo kept i = (j : ℕ) → j < i → (k : ℕ) → ¬ In (get_or kept j []) k

abbrev pub Cleared : Kept → Type 0
Cleared kept = EmptyTo kept (length kept)
