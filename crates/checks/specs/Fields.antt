-- The code's struct of an annotation record.
use Rattle.std.specs.Prelude.{◌≡◌}
use Rattle.view.specs.Annotation.{AnnotationRecord}
use Rattle.checks.specs.declared.annotation.Record.{Record}

-- the struct has the fields of the record
pub record Fields (given : AnnotationRecord) (read : Record) : Type 0 where
  pub parent : read.parent ≡ given.parent
  pub child : read.child ≡ given.child
  pub filter : read.filter ≡ given.filter
  pub rest : read.rest ≡ given.rest
