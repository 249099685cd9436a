-- The rewriting of syntax, given a filter that tells who is visible: each axis by its formula, every other path and filter by its parts.
-- "Not", tests and filters of the query speak of the view. Nothing here has to be believed: the theorem says what a rewritten path reaches.
use Rattle.query.specs.Syntax.{Path, self, child, parent, next, previous, stay, then, either, star}
use Rattle.query.specs.Syntax.{Filter, labelled, leads, always, never, not, and, or}
use Rattle.axes.proofs.Formulas.{down, up, forwards, backwards}

unfoldable mutual
  pub rewritten : Filter → Path → Path
  rewritten vis self = self
  rewritten vis child = down vis
  rewritten vis parent = up vis
  rewritten vis next = forwards vis
  rewritten vis previous = backwards vis
  rewritten vis (stay f) = stay (rewritten_filter vis f)
  rewritten vis (then p q) = then (rewritten vis p) (rewritten vis q)
  rewritten vis (either p q) = either (rewritten vis p) (rewritten vis q)
  rewritten vis (star p) = star (rewritten vis p)

  pub rewritten_filter : Filter → Filter → Filter
  rewritten_filter vis (labelled l) = labelled l
  rewritten_filter vis (leads p) = leads (rewritten vis p)
  rewritten_filter vis always = always
  rewritten_filter vis never = never
  rewritten_filter vis (not f) = not (rewritten_filter vis f)
  rewritten_filter vis (and f g) = and (rewritten_filter vis f) (rewritten_filter vis g)
  rewritten_filter vis (or f g) = or (rewritten_filter vis f) (rewritten_filter vis g)
