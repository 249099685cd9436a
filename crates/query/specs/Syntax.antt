-- The two sorts of syntax: paths and filters, as in source document 000.
use Rattle.std.specs.Prelude.{ℕ}

mutual
  pub data Path : Type 0 where
    self child parent next previous : Path
    stay : Filter → Path
    then either : Path → Path → Path
    star : Path → Path

  pub data Filter : Type 0 where
    labelled : ℕ → Filter
    leads : Path → Filter
    always never : Filter
    not : Filter → Filter
    and or : Filter → Filter → Filter
