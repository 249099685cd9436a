-- `own_entry`: an entry in order has a listed kind, and small fields.
use native.Mathlib.Omega.{arith}
use Rattle.tables.proofs.Found.{kind_found}
use Rattle.writer.proofs.Moving.{read_label, read_numbers}
use Rattle.writer.proofs.moved.own_entry.Goals as goal

pub unwrap-requires : goal.unwrap-requires
unwrap-requires c = kind_found _ c.requires.right c.entry_at-own.ensures.kind c.kind_of.ensures

pub overflow_cast-result : goal.overflow_cast-result
overflow_cast-result c = omega (arith, read_label c.requires.right c.entry_at-own.ensures)

pub returns-clause-small : goal.returns-clause-small
returns-clause-small c = read_numbers c.requires.right c.entry_at-own.ensures c.requires.short
