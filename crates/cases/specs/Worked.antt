-- "A roll to work with": the roll, its annotation and filter table, and its view, written down once.
use Rattle.std.specs.Prelude.{ℕ, [], ◌∷◌}
use Rattle.reply.specs.Bytes.{Bytes}
use Rattle.tree.specs.Tree.{Node, Tree}
use Rattle.roll.specs.Roll.{none, node_bytes}
use Rattle.query.specs.Table.{Entry, entry_bytes}

infix 80 ◌∶◌
abbrev ◌∶◌ : ℕ → ℕ → Node
label ∶ parent = record { label = label; parent = parent }

-- "Labels: 1 roll, 2 case, 4 draft, 5 word, 6 seal, 7 checked, 8 tick. Records as label:parent, from 0"
unfoldable pub roll : Bytes
roll =
    node_bytes (1 ∶ none ∷ 2 ∶ 0 ∷ 4 ∶ 1 ∷ 5 ∶ 2 ∷ 5 ∶ 2 ∷ 8 ∶ 4 ∷ 7 ∶ 1 ∷ 5 ∶ 6 ∷ 2 ∶ 0 ∷ 6 ∶ 8 ∷ 4 ∶ 8 ∷ 5 ∶ 10 ∷ 8 ∶ 11 ∷ [])

-- "Annotation: (1,2) !v/[#6]; (2,4) f; (4,5) v/[#8]"; "the filters named are 5, 6 and 11"
unfoldable pub annotation : Bytes
annotation =
    1 ∷ 2 ∷ 5 ∷ 0 ∷ 0 ∷ 0
    ∷ 2 ∷ 4 ∷ 6 ∷ 0 ∷ 0 ∷ 0
    ∷ 4 ∷ 5 ∷ 11 ∷ 0 ∷ 0 ∷ 0
    ∷ []

abbrev entry : ℕ → ℕ → ℕ → ℕ → Entry
entry kind label left right = record { kind = kind; label = label; left = left; right = right }

-- "The filter table holds these in this order, as the reader writes filters: 12 entries"
unfoldable pub filters : Bytes
filters =
    entry_bytes
    (entry 2 0 0 0 ∷ entry 16 6 0 0 ∷ entry 6 0 1 0 ∷ entry 7 0 0 2 ∷ entry 17 0 3 0 ∷ entry 20 0 4 0
    ∷ entry 19 0 0 0
    ∷ entry 2 0 0 0 ∷ entry 16 8 0 0 ∷ entry 6 0 8 0 ∷ entry 7 0 7 9 ∷ entry 17 0 10 0
    ∷ [])

-- "The view: 1:none, 2:0, 5:1, 8:2, 7:1, 5:4, 5:0, 8:6."
unfoldable pub view : Tree
view = 1 ∶ none ∷ 2 ∶ 0 ∷ 5 ∶ 1 ∷ 8 ∶ 2 ∷ 7 ∶ 1 ∷ 5 ∶ 4 ∷ 5 ∶ 0 ∷ 8 ∶ 6 ∷ []
