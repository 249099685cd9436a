-- The text of a path with brackets only where the grouping needs them and between two stars, and that of a filter. Assumes nothing.
use Prim.Native.Nat.{ℕ, ◌+◌, ◌/◌, ◌%◌}
use Prim.Native.Char.{code}
use mathlib.Core.Bool.{cond}
use mathlib.Core.List.{[], ◌∷◌, ◌++◌}
use lib.Dec.{leb, ltb}
use Rattle.reply.specs.Bytes.{Bytes}
use Rattle.query.specs.Syntax.{Path, self, child, parent, next, previous, stay, then, either, star}
use Rattle.query.specs.Syntax.{Filter, labelled, leads, always, never, not, and, or}

-- How tightly a path is joined: by bars, by slashes, by a star, or not at all.
unfoldable pub path_rank : Path → ℕ
path_rank (either p q) = 0
path_rank (then p q) = 1
path_rank (star p) = 2
path_rank self = 3
path_rank child = 3
path_rank parent = 3
path_rank next = 3
path_rank previous = 3
path_rank (stay f) = 3

-- How tightly a filter is joined: by pluses, by ampersands, or not at all.
unfoldable pub filter_rank : Filter → ℕ
filter_rank (or f g) = 0
filter_rank (and f g) = 1
filter_rank (labelled l) = 2
filter_rank (leads p) = 2
filter_rank always = 2
filter_rank never = 2
filter_rank (not f) = 2

-- A text between two bytes.
unfoldable pub between : ℕ → ℕ → Bytes → Bytes
between o c s = o ∷ s ++ c ∷ []

-- The text of what has a rank, where at least `least` is asked for: in brackets if it is looser.
unfoldable pub held : ℕ → ℕ → ℕ → ℕ → Bytes → Bytes
held o c least rank s = cond (leb least rank) s (between o c s)

-- a path in round brackets, a filter in curly ones
unfoldable pub path_held : ℕ → Path → Bytes → Bytes
path_held least p s = held (code "(") (code ")") least (path_rank p) s

unfoldable pub filter_held : ℕ → Filter → Bytes → Bytes
filter_held least f s = held (code "{") (code "}") least (filter_rank f) s

-- A label in decimal, with no zero in front.
unfoldable pub label_shown : ℕ → Bytes
label_shown l = cond (ltb l 10) ((code "0" + l) ∷ []) ((code "0" + l / 10) ∷ (code "0" + l % 10) ∷ [])

unfoldable mutual
  pub path_shown : Path → Bytes
  path_shown self = code "." ∷ []
  path_shown child = code "v" ∷ []
  path_shown parent = code "^" ∷ []
  path_shown next = code ">" ∷ []
  path_shown previous = code "<" ∷ []
  path_shown (stay f) = between (code "[") (code "]") (filter_shown f)
  path_shown (then p q) = path_held 1 p (path_shown p) ++ code "/" ∷ path_held 2 q (path_shown q)
  path_shown (either p q) = path_shown p ++ code "|" ∷ path_held 1 q (path_shown q)
  path_shown (star p) = path_held 3 p (path_shown p) ++ code "*" ∷ []

  pub filter_shown : Filter → Bytes
  filter_shown (labelled l) = code "#" ∷ label_shown l
  filter_shown (leads p) = path_shown p
  filter_shown always = code "t" ∷ []
  filter_shown never = code "f" ∷ []
  filter_shown (not f) = code "!" ∷ filter_held 2 f (filter_shown f)
  filter_shown (and f g) = filter_held 1 f (filter_shown f) ++ code "&" ∷ filter_held 2 g (filter_shown g)
  filter_shown (or f g) = filter_shown f ++ code "+" ∷ filter_held 1 g (filter_shown g)
