-- The measures of `pass_once` and `either_once`, which call each other: the entry number falls, and either stands above its two entries.
use Prim.Native.Nat.{◌+◌, ◌*◌, max}
use Rattle.matching.proofs.Matching.+asking_once.Given as goal

abbrev pub decreases-either_once : goal.decreases-either_once
decreases-either_once l = 2 * max l.left l.right + 1

abbrev pub decreases-pass_once : goal.decreases-pass_once
decreases-pass_once l = 2 * l.e
