-- What some rule entries stand for, and the words of some nodes, computed. Assumes nothing.
use Prim.Native.Nat.{ℕ}
use mathlib.Core.Path.{◌≡◌, refl}
use mathlib.Core.List.{[], ◌∷◌, ◌++◌}
use Rattle.reply.specs.Bytes.{Bytes}
use Rattle.tree.specs.Tree.{Node, Tree}
use Rattle.query.specs.Table.{entries, read_on}
use Rattle.rules.specs.Language as language
use Rattle.rules.specs.Table.{mean, expression_at, height}
use Rattle.rules.specs.Rules.{labels_under, word}

-- an entry, its operands below 256
abbrev entry : ℕ → ℕ → ℕ → ℕ → Bytes
entry kind label left right = kind ∷ label ∷ left ∷ 0 ∷ right ∷ 0 ∷ []

-- zero or more of 1 or 2, and the same once more, by one entry that is used twice; then nothing
table : Bytes
table = entry 33 1 0 0 ++ entry 33 2 0 0 ++ entry 35 0 0 1 ++ entry 36 0 2 0 ++ entry 34 0 3 3 ++ entry 32 0 0 0 ++ entry 34 0 4 5

expression_tried : expression_at (entries table) 6
    ≡ language.then
    (language.then (language.star (language.either (language.one 1) (language.one 2))) (language.star (language.either (language.one 1) (language.one 2))))
    language.empty
unfolding expression_at entries table read_on mean
expression_tried = refl

height_tried : height (expression_at (entries table) 6) ≡ 5
unfolding height expression_at entries table read_on mean
height_tried = refl

node : ℕ → ℕ → Node
node label parent = record { label = label; parent = parent }

-- 1 has the children 2 (with 3 and 4 under it) and 5 (with 6 under it)
tree : Tree
unfolding node
tree = node 1 65535 ∷ node 2 0 ∷ node 3 1 ∷ node 4 1 ∷ node 5 0 ∷ node 6 4 ∷ []

words_tried : (word tree 0 ≡ 2 ∷ 5 ∷ []) × (word tree 1 ≡ 3 ∷ 4 ∷ []) × (word tree 2 ≡ []) × (word tree 4 ≡ 6 ∷ [])
unfolding word tree node labels_under
words_tried = (refl, refl, refl, refl)
