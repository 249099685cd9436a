-- What is shown for some paths, and for the paths of some tables, computed. Assumes nothing.
use Prim.Native.Nat.{ℕ}
use Prim.Native.Char.{code}
use Prim.Native.String.{String, [] as nil, ◌∷◌ as ◌::◌}
use mathlib.Core.Path.{◌≡◌, refl}
use mathlib.Core.List.{List, [], ◌∷◌, ◌++◌, map}
use Rattle.reply.specs.Bytes.{Bytes}
use Rattle.query.specs.Kind.{find, kinds}
use Rattle.query.specs.Syntax.{Path, child, stay, then, either, star, labelled, always, never, not, and, or}
use Rattle.query.specs.Table.{entries, read_on, the_path, the_filter, path_in, filter_in, build, mean, meanings, path_at, query_of}
use Rattle.shortest.proofs.Shown.{path_rank, filter_rank, between, held, path_held, filter_held, label_shown, path_shown}

-- a text as bytes
ascii : String → Bytes
ascii nil = []
ascii (c :: more) = code c ∷ ascii more

-- a path, or a table, and the text that is shown for it
record Try (A : Type 0) : Type 0 where
  given : A
  text : String

abbrev shows : {A : Type 0} → A → String → Try A
shows given text = record { given = given; text = text }

-- brackets stand where the grouping needs them, and nowhere else
paths : List (Try Path)
paths =
    shows (then (either child child) child) "(v|v)/v"
    ∷ shows (either (then child child) child) "v/v|v"
    ∷ shows (then (then child child) child) "v/v/v"
    ∷ shows (then child (then child child)) "v/(v/v)"
    ∷ shows (either child (either child child)) "v|(v|v)"
    ∷ shows (star (then child child)) "(v/v)*"
    ∷ shows (star (star child)) "(v*)*"
    ∷ shows (stay (and (not (or (labelled 1) always)) never)) "[!{#1+t}&f]"
    ∷ shows (stay (or (labelled 9) (or (labelled 10) (labelled 64)))) "[#9+{#10+#64}]"
    ∷ []

paths_tried : map (λ x. path_shown x.given) paths ≡ map (λ x. ascii x.text) paths
unfolding ascii paths path_shown path_held path_rank filter_held filter_rank held between label_shown
paths_tried = refl

-- an entry of a table, its operands below 256
abbrev entry : ℕ → ℕ → ℕ → ℕ → Bytes
entry kind label left right = kind ∷ label ∷ left ∷ 0 ∷ right ∷ 0 ∷ []

-- one without operands
abbrev leaf : ℕ → Bytes
leaf kind = entry kind 0 0 0

-- entries that nothing uses are not shown, and one that is used twice is shown twice
tables : List (Try Bytes)
tables =
    shows (leaf 19 ++ entry 6 0 0 0) "[f]"
    ∷ shows (leaf 1 ++ leaf 5 ++ leaf 2 ++ entry 7 0 2 1 ++ leaf 4) ">"
    ∷ shows (leaf 5 ++ entry 9 0 0 0 ++ entry 17 0 1 0 ++ entry 6 0 2 0 ++ entry 16 1 0 0 ++ entry 6 0 4 0 ++ entry 8 0 3 5) "[<*]|[#1]"
    ∷ shows (leaf 2 ++ entry 8 0 0 0 ++ entry 7 0 1 1 ++ entry 7 0 2 2) "(v|v)/(v|v)/((v|v)/(v|v))"
    ∷ []

tables_tried : map (λ x. path_shown (query_of (entries x.given))) tables ≡ map (λ x. ascii x.text) tables
unfolding ascii tables entries query_of path_at meanings read_on mean build find kinds path_in filter_in the_path the_filter path_shown
    path_held path_rank filter_held filter_rank held between label_shown
tables_tried = refl
