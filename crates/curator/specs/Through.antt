-- What is reached through a rewritten query. Only inner contracts cite it.
use Rattle.std.specs.Prelude.{ℕ, List}
use Rattle.reply.specs.Bytes.{Bytes}
use Rattle.roll.specs.Roll.{nodes}
use Rattle.query.specs.Syntax.{Path}
use Rattle.query.specs.Meaning.{reach}
use Rattle.query.specs.Table.{entries, query_of}
use Rattle.sets.specs.Sets.{Holds}
use Rattle.rewrite.specs.Promise.{Faithful}

-- the set is what some path that is faithful to the query reaches on the roll from record 0
pub record Through (roll annotation filters query : Bytes) (set : List ℕ) : Type 0 where
  pub path : Path
  pub faithful : Faithful annotation filters path (query_of (entries query))
  pub all : Holds (reach (nodes roll) path 0) set
