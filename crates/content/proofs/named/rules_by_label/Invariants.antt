-- `rules_by_label`: the table is right for the list records that have been passed.
use Rattle.rules.specs.Rules.{listed}
use Rattle.content.proofs.Naming.{NamedTo}
use Rattle.content.proofs.named.rules_by_label.Given as goal

abbrev pub invariant-loop-k : goal.invariant-loop-k
invariant-loop-k l = NamedTo (listed l.list) l.k l.named
