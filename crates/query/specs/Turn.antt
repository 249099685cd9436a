-- A path walked backwards, and a path whose filters are taken to hold. Only inner contracts cite them: an evaluator goes these ways too.
use Rattle.query.specs.Syntax.{Path, self, child, parent, next, previous, stay, then, either, star}

-- each axis swapped with its opposite, and each composition with its parts in the other order
unfoldable pub turn : Path → Path
turn self = self
turn child = parent
turn parent = child
turn next = previous
turn previous = next
turn (stay f) = stay f
turn (then p q) = then (turn q) (turn p)
turn (either p q) = either (turn p) (turn q)
turn (star p) = star (turn p)

-- every filter taken to hold
unfoldable pub free : Path → Path
free self = self
free child = child
free parent = parent
free next = next
free previous = previous
free (stay f) = self
free (then p q) = then (free p) (free q)
free (either p q) = either (free p) (free q)
free (star p) = star (free p)
