-- "The table written has left operand, right operand, then the entry itself, each used once; brackets ( and { write no entry."
use Rattle.std.specs.Prelude.{ℕ, ◌+◌, ◌-◌, [], ◌∷◌, ◌++◌, length}
use Rattle.query.specs.Syntax.{Path, self, child, parent, next, previous, stay, then, either, star}
use Rattle.query.specs.Syntax.{Filter, labelled, leads, always, never, not, and, or}
use Rattle.query.specs.Table.{Entries}

abbrev entry : ℕ → ℕ → ℕ → ℕ → Entries
entry kind label left right = record { kind = kind; label = label; left = left; right = right } ∷ []

-- An entry of a kind behind its operand's entries, of which the last is the operand; n entries stand before them.
abbrev behind_one : ℕ → ℕ → Entries → Entries
behind_one kind n operand = operand ++ entry kind 0 (n + length operand - 1) 0

-- The same behind two operands, the right one written where the left one ends.
abbrev behind_two : ℕ → ℕ → Entries → (ℕ → Entries) → Entries
behind_two kind n left right =
    let m : ℕ = n + length left in
    left ++ (right m ++ entry kind 0 (m - 1) (m + length (right m) - 1))

unfoldable mutual
  -- the entries of a path, when n entries stand before them
  pub path_entries : ℕ → Path → Entries
  path_entries n self = entry 1 0 0 0
  path_entries n child = entry 2 0 0 0
  path_entries n parent = entry 3 0 0 0
  path_entries n next = entry 4 0 0 0
  path_entries n previous = entry 5 0 0 0
  path_entries n (stay f) = behind_one 6 n (filter_entries n f)
  path_entries n (then p q) = behind_two 7 n (path_entries n p) (λ m. path_entries m q)
  path_entries n (either p q) = behind_two 8 n (path_entries n p) (λ m. path_entries m q)
  path_entries n (star p) = behind_one 9 n (path_entries n p)

  -- the entries of a filter, when n entries stand before them
  pub filter_entries : ℕ → Filter → Entries
  filter_entries n (labelled l) = entry 16 l 0 0
  filter_entries n (leads p) = behind_one 17 n (path_entries n p)
  filter_entries n always = entry 18 0 0 0
  filter_entries n never = entry 19 0 0 0
  filter_entries n (not f) = behind_one 20 n (filter_entries n f)
  filter_entries n (and f g) = behind_two 21 n (filter_entries n f) (λ m. filter_entries m g)
  filter_entries n (or f g) = behind_two 22 n (filter_entries n f) (λ m. filter_entries m g)

unfoldable pub table_of : Path → Entries
table_of p = path_entries 0 p
