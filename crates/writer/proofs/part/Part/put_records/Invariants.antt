-- `put_records`. The loop's invariant: the records from i on are written.
use Rattle.view.specs.Annotation.{records}
use Rattle.writer.proofs.Recording.{Recorded}
use Rattle.writer.proofs.part.Part.put_records.Given as goal

abbrev pub invariant-loop-i : goal.invariant-loop-i
invariant-loop-i l = Recorded l.initial.self l.first (records l.annotation) l.self l.i
