-- The axes of the view as paths on the tree, given a filter that tells who is visible.
-- Nothing here has to be believed: the laws of this crate say what each of them reaches.
use Rattle.query.specs.Syntax.{Path, child, parent, next, previous, stay, then, either, star, Filter, leads, not}

-- stay where the path leads nowhere: a last child has `no next`, a node without children `no child`
abbrev pub no : Path → Path
no p = stay (not (leads p))

module _ (vis : Filter) where
  abbrev pub shown : Path
  shown = stay vis

  abbrev pub hidden : Path
  hidden = stay (not vis)

  -- v/(H/v)*/V: the children in the view
  unfoldable pub down : Path
  down = then child (then (star (then hidden child)) shown)

  -- ^/(H/^)*/V: the parent in the view
  unfoldable pub up : Path
  up = then parent (then (star (then hidden parent)) shown)

  -- ([!>]/^/H)*/>: out of hidden parents at their ends, and on to a next sibling
  unfoldable pub skip : Path
  skip = then (star (then (no next) (then parent hidden))) next

  -- H/(v/[!<] | [!v]/skip): past a hidden node, to its first child or, where it has none, behind its end
  unfoldable pub onwards : Path
  onwards = then hidden (either (then child (no previous)) (then (no child) skip))

  -- skip/onwards*/V: the next sibling in the view
  unfoldable pub forwards : Path
  forwards = then skip (then (star onwards) shown)

  -- </(H/v/[!>])*: skip, turned round
  unfoldable pub back : Path
  back = then previous (star (then hidden (then child (no next))))

  -- (([!<]/^ | back/[!v])/H)*/back/V: forwards, turned round
  unfoldable pub backwards : Path
  backwards = then (star (then (either (then (no previous) parent) (then back (no child))) hidden)) (then back shown)
