-- `write_behind`: the query's entries stand behind the prelude.
use native.Mathlib.Omega.{arith}
use Rattle.query.specs.Table.{entries}
use Rattle.view.specs.Annotation.{records}
use Rattle.writer.proofs.Recording.{written_size, behind_laid}
use Rattle.writer.proofs.write_behind.Goals as goal

pub returns-clause-value : goal.returns-clause-value
returns-clause-value c =
    let a = c.args in
    omega (arith, written_size a.first (records a.annotation.now) (entries a.query.now), c.write_prelude-at.ensures.value, c.count.ensures)

pub returns-clause-out_after : goal.returns-clause-out_after
returns-clause-out_after c =
    let a = c.args in
    let front = c.write_prelude-at.ensures in
    behind_laid a.out.now a.first (records a.annotation.now) (entries a.query.now) front.value front.out_after c.write_query.ensures
