-- The grammar of query texts, one constructor for each line of it: which bytes are a text of which path.
-- `code "|"` is the byte of the character |.
use Rattle.std.specs.Prelude.{ℕ, ◌+◌, ◌*◌, ◌≤◌, [], ◌∷◌, ◌++◌}
use Prim.Native.Char.{code}
use Rattle.reply.specs.Bytes.{Bytes}
use Rattle.query.specs.Syntax.{Path, self, child, parent, next, previous, stay, then, either, star}
use Rattle.query.specs.Syntax.{Filter, labelled, leads, always, never, not, and, or}

-- "label: 1 to 64 in decimal, no leading zero." The digit d is the byte `code "0" + d`.
pub data LabelText : Bytes → ℕ → Type 0 where
  one_digit : {d : ℕ} → 1 ≤ d → d ≤ 9 → LabelText ((code "0" + d) ∷ []) d
  two_digits : {d e : ℕ} → 1 ≤ d → e ≤ 9 → 10 * d + e ≤ 64 → LabelText ((code "0" + d) ∷ (code "0" + e) ∷ []) (10 * d + e)

mutual
  -- "path: sequences joined by |", grouping to the left
  pub data PathText : Bytes → Path → Type 0 where
    one_sequence : {s : Bytes} {p : Path} → SequenceText s p → PathText s p
    bar : {s u : Bytes} {p q : Path} → PathText s p → SequenceText u q → PathText (s ++ code "|" ∷ u) (either p q)

  -- "Sequence: items joined by /", grouping to the left
  pub data SequenceText : Bytes → Path → Type 0 where
    one_item : {s : Bytes} {p : Path} → ItemText s p → SequenceText s p
    slash : {s u : Bytes} {p q : Path} → SequenceText s p → ItemText u q → SequenceText (s ++ code "/" ∷ u) (then p q)

  -- "Item: an atom and any number of *"
  pub data ItemText : Bytes → Path → Type 0 where
    an_atom : {s : Bytes} {p : Path} → AtomText s p → ItemText s p
    starred : {s : Bytes} {p : Path} → ItemText s p → ItemText (s ++ code "*" ∷ []) (star p)

  -- "atom: . self, v child, ^ parent, > next, < previous, [ filter ], ( path )"
  pub data AtomText : Bytes → Path → Type 0 where
    dot : AtomText (code "." ∷ []) self
    letter_v : AtomText (code "v" ∷ []) child
    caret : AtomText (code "^" ∷ []) parent
    greater : AtomText (code ">" ∷ []) next
    less : AtomText (code "<" ∷ []) previous
    square : {s : Bytes} {f : Filter} → FilterText s f → AtomText (code "[" ∷ s ++ code "]" ∷ []) (stay f)
    round : {s : Bytes} {p : Path} → PathText s p → AtomText (code "(" ∷ s ++ code ")" ∷ []) p

  -- "filter: conjunctions joined by + (or)", grouping to the left
  pub data FilterText : Bytes → Filter → Type 0 where
    one_conjunction : {s : Bytes} {f : Filter} → ConjunctionText s f → FilterText s f
    plus : {s u : Bytes} {f g : Filter} → FilterText s f → ConjunctionText u g → FilterText (s ++ code "+" ∷ u) (or f g)

  -- "Conjunction: terms joined by &", grouping to the left
  pub data ConjunctionText : Bytes → Filter → Type 0 where
    one_term : {s : Bytes} {f : Filter} → TermText s f → ConjunctionText s f
    ampersand : {s u : Bytes} {f g : Filter} → ConjunctionText s f → TermText u g → ConjunctionText (s ++ code "&" ∷ u) (and f g)

  -- "Term: ! term, t, f, # and a label, { filter }, or a path"
  pub data TermText : Bytes → Filter → Type 0 where
    exclamation : {s : Bytes} {f : Filter} → TermText s f → TermText (code "!" ∷ s) (not f)
    letter_t : TermText (code "t" ∷ []) always
    letter_f : TermText (code "f" ∷ []) never
    hash : {s : Bytes} {l : ℕ} → LabelText s l → TermText (code "#" ∷ s) (labelled l)
    curly : {s : Bytes} {f : Filter} → FilterText s f → TermText (code "{" ∷ s ++ code "}" ∷ []) f
    a_path : {s : Bytes} {p : Path} → PathText s p → TermText s (leads p)
