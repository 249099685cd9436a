-- `link`. The loop's invariant: the links are right for the pairs of siblings whose second has been passed.
use native.Mathlib.Omega.{arith}
use mathlib.Core.Path.{◌≡◌, ◌∙◌}
use Rattle.roll.proofs.Deciding.{roll_most}
use Rattle.links.proofs.Linking.{siblings_none, siblings_more, siblings_same, siblings_all}
use Rattle.links.proofs.link.Goals as goal
use Rattle.links.proofs.link.Goals.{in-Some, in_default}

pub loop-j-init : goal.loop-j-init
loop-j-init c = siblings_none c.requires.links_value

pub loop-j-preserved : goal.loop-j-preserved
loop-j-preserved c =
    let before = c.loop-j.invariant in
    elim c.match-previous_of.branch [
      | in-Some w ↦ rw w.links-is (siblings_more before (roll_most c.requires.roll) w.in-Some.ensures)
      | in_default w ↦ rw w.links-is (siblings_same before w.in_default.ensures)
    ]

pub returns : goal.returns
returns c =
    let last : c.loop-j.j ≡ c.count-j-end.result = omega arith in
    siblings_all (rw (last ∙ c.count-j-end.ensures) at c.loop-j.invariant)
