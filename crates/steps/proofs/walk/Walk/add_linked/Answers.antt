-- `add_linked`: a link that is there leads to a record.
use mathlib.Core.Path.{sym, ◌∙◌}
use Rattle.links.proofs.Linking.{link_low}
use Rattle.steps.proofs.Adding.{added_same}
use Rattle.steps.proofs.walk.Walk.add_linked.Goals as goal

pub add-requires : goal.add-requires
add-requires c = link_low c.requires.roll.1 c.requires.place_bound c.in-Some.ensures

pub returns-in-Some : goal.returns-in-Some
returns-in-Some c =
    let low = link_low c.requires.roll.1 c.requires.place_bound c.in-Some.ensures in
    let link = c.in-Some.ensures.0 in
    added_same (λ k. (λ e. record { link = link ∙ e; node = rw e at low }, λ h. sym link ∙ h.link)) c.add.ensures
