-- `count_stars`: the stars of one entry after the other.
use native.Mathlib.Omega.{arith}
use Rattle.matching.proofs.stars.count_stars.Goals as goal

pub stars_of-requires-clause-entry_right : goal.stars_of-requires-clause-entry_right
stars_of-requires-clause-entry_right c = c.requires.by_index c.loop-i.i (omega arith)
