-- `answer_line`: a text that is refused gives the refusal's line, any other the line of the curator's answer to its table.
use native.Mathlib.Omega.{arith}
use mathlib.Core.Path.{sym}
use lib.Seq.{length-take-le}
use Rattle.draw.proofs.Answering.{TableRead, table_read, refused_line, answered_line}
use Rattle.draw.proofs.line.Archive.answer_line.Goals as goal
use Rattle.draw.proofs.line.Archive.answer_line.Goals.{In-Ok}

-- a text that is read has its table in front of the local one
table : (c : In-Ok) →
    TableRead c.args.text.now c.in-Ok.n c.read_text-read.new.room
table c = table_read c.in-Ok.is c.read_text-read.ensures

pub returns-in_default : goal.returns-in_default
returns-in_default c =
    let read = c.read_text-read in
    refused_line read.result _ c.in_default.is read.ensures c.write_line.ensures

pub overflow_mul-size : goal.overflow_mul-size
overflow_mul-size c = omega (arith, (table c).few)

pub slice_bounds-table-end : goal.slice_bounds-table-end
slice_bounds-table-end c = (table (goal.at.slice_bounds-table-end c).In-Ok).long

pub slice_bounds-curators_answer-end : goal.slice_bounds-curators_answer-end
slice_bounds-curators_answer-end c = sym (length-take-le _ _ (table (goal.at.slice_bounds-curators_answer-end c).In-Ok).long)

pub returns : goal.returns
returns c =
    answered_line (table (goal.at.returns c).In-Ok) c.curators_answer-reply.ensures c.write_line-2.ensures
