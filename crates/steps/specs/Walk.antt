-- What a walk is given. Only inner contracts cite it.
use Rattle.roll.specs.Roll.{nodes, Roll}
use Rattle.links.specs.Links.{Siblings}
use Rattle.steps.specs.declared.walk.Walk.{Walk}

-- the roll is one, and the links are its links
abbrev pub Ready : Walk → Type 0
Ready walk = Roll walk.roll.now × Siblings (nodes walk.roll.now) walk.links.now
