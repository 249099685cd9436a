-- `link`. The loop's invariant: the links are right for the pairs of siblings whose second has been passed.
use Rattle.roll.specs.Roll.{nodes}
use Rattle.links.proofs.Linking.{SiblingsTo}
use Rattle.links.proofs.link.Given as goal

abbrev pub invariant-loop-j : goal.invariant-loop-j
invariant-loop-j l = SiblingsTo (nodes l.roll) l.j l.links
