-- `put_all`. The loop's invariant: the entries passed are written.
use mathlib.Core.List.{map}
use lib.ListN.{take}
use Rattle.writer.specs.Laid.{as_entry, Lays}
use Rattle.writer.proofs.part.Part.put_all.Given as goal

abbrev pub invariant-loop-own : goal.invariant-loop-own
invariant-loop-own l = Lays l.initial.self (map as_entry (take l.own-index l.entries)) l.self
