-- "`|`, `/`, `+` and `&` group to the left": three of each, joined. Assumes nothing.
use mathlib.Core.List.{◌∷◌, ◌++◌}
use Rattle.reply.specs.Bytes.{Bytes}
use Rattle.query.specs.Syntax.{Path, either, then, Filter, or, and}
use Rattle.text.specs.Grammar.{PathText, bar, SequenceText, slash, ItemText, FilterText, plus, ConjunctionText, ampersand, TermText}

module _ {a b c : Bytes} {p q r : Path} where
  pub bars_group : PathText a p → SequenceText b q → SequenceText c r → PathText ((a ++ 124 ∷ b) ++ 124 ∷ c) (either (either p q) r)
  bars_group x y z = bar (bar x y) z

  pub slashes_group : SequenceText a p → ItemText b q → ItemText c r → SequenceText ((a ++ 47 ∷ b) ++ 47 ∷ c) (then (then p q) r)
  slashes_group x y z = slash (slash x y) z

module _ {a b c : Bytes} {f g h : Filter} where
  pub pluses_group : FilterText a f → ConjunctionText b g → ConjunctionText c h → FilterText ((a ++ 43 ∷ b) ++ 43 ∷ c) (or (or f g) h)
  pluses_group x y z = plus (plus x y) z

  pub ampersands_group : ConjunctionText a f → TermText b g → TermText c h → ConjunctionText ((a ++ 38 ∷ b) ++ 38 ∷ c) (and (and f g) h)
  ampersands_group x y z = ampersand (ampersand x y) z
