-- Regular expressions over labels, and the words in their language.
use Rattle.std.specs.Prelude.{ℕ, List, [], ◌∷◌, ◌++◌}

-- "a regular expression over child labels": "empty, one label, one after another, either, zero or more"
pub data Expression : Type 0 where
  empty : Expression
  one : ℕ → Expression
  then either : Expression → Expression → Expression
  star : Expression → Expression

-- The labels of some nodes, in order.
abbrev pub Word : Type 0
Word = List ℕ

-- The word is in the language of the expression. "Empty" is the word without labels.
pub data InLanguage : Expression → Word → Type 0 where
  nothing : InLanguage empty []
  label : {l : ℕ} → InLanguage (one l) (l ∷ [])
  both : {a b : Expression} {u v : Word} → InLanguage a u → InLanguage b v → InLanguage (then a b) (u ++ v)
  left : {a b : Expression} {u : Word} → InLanguage a u → InLanguage (either a b) u
  right : {a b : Expression} {u : Word} → InLanguage b u → InLanguage (either a b) u
  no_more : {a : Expression} → InLanguage (star a) []
  once_more : {a : Expression} {u v : Word} → InLanguage a u → InLanguage (star a) v → InLanguage (star a) (u ++ v)
