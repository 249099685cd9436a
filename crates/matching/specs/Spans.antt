-- Places in a word, and the expressions whose words stand between two of them.
use Rattle.std.specs.Prelude.{ℕ, ◌*◌, ◌≤◌, ◌<◌, ◌≡◌, length, get_or}
use Rattle.std.proofs.Math.Seq.{slice}
use Rattle.rules.specs.Language.{Expression, Word, InLanguage}

-- the labels from place p up to q are a word of the expression
pub record Spans (x : Expression) (w : Word) (p q : ℕ) : Type 0 where
  pub order : p ≤ q
  pub within : q ≤ length w
  pub part : InLanguage x (slice p q w)

-- the label stands at place p
pub record LabelAt (w : Word) (l p : ℕ) : Type 0 where
  pub within : p < length w
  pub is : get_or w p 0 ≡ l

-- so many words of a set hold all places in the word
pub record Used (w : Word) (n : ℕ) : Type 0 where
  pub enough : length w < 64 * n
  pub most : n ≤ 64
