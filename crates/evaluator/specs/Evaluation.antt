-- What an evaluation is asked.
use Rattle.std.specs.Prelude.{ℕ, List}
use Rattle.query.specs.Syntax.{Path}
use Rattle.query.specs.Kind.{Sort}
use Rattle.query.specs.Table.{entries, path_at}
use Rattle.evaluator.specs.declared.course.Course.{Course}
use Rattle.evaluator.specs.declared.evaluation.Evaluation.{Evaluation}
use Rattle.evaluator.specs.Course.{facing}
use Rattle.evaluator.specs.Evaluator.{Knowing, Asked}

-- entry e of a sort is asked of a set of nodes, and what the evaluation rests on is known
pub record Asks (on : Evaluation) (s : Sort) (e : ℕ) (from : List ℕ) : Type 0 where
  pub given : Knowing on.roll.now on.table.now on.links.now on.known on.held.now
  pub asked : Asked on.roll.now on.table.now s e from

-- the path of an entry, as it is walked on a course
abbrev pub goes : Evaluation → ℕ → Course → Path
goes on e course = facing course (path_at (entries on.table.now) e)
