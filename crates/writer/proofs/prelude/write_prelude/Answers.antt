-- `write_prelude`: the opening, the records and the rows, one behind the other.
use mathlib.Core.Path.{refl}
use borrow.Author.Rules.{rules}
use Rattle.view.specs.Annotation.{records}
use Rattle.writer.proofs.Recording.{prelude_laid}
use Rattle.writer.proofs.prelude.write_prelude.Goals as goal

pub returns-clause-value : goal.returns-clause-value
returns-clause-value c =
    let a = c.args in
    (prelude_laid a.first (records a.annotation.now) refl c.put_opening.ensures c.put_records.ensures.lays c.put_rows.ensures refl).0

pub returns-clause-out_after : goal.returns-clause-out_after
returns-clause-out_after c =
    let a = c.args in
    (prelude_laid a.first (records a.annotation.now) refl c.put_opening.ensures c.put_records.ensures.lays c.put_rows.ensures (search rules)).1
