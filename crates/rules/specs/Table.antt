-- Rule entries: "entries like query entries", which of them are in order, and the expression that an entry stands for.
use Rattle.std.specs.Prelude.{ℕ, suc, max, ◌<◌, ◌≡◌, true, false, List, [], eqb, get_or}
use Rattle.tree.specs.Tree.{Label}
use Rattle.query.specs.Table.{Entry, Entries, entry_at, read_on}
use Rattle.rules.specs.Language.{Expression, empty, one, then, either, star}

-- an entry's kind, label, left and right
abbrev pub fields : ℕ → ℕ → ℕ → ℕ → Entry
fields kind label left right = record { kind = kind; label = label; left = left; right = right }

-- "kinds 32 to 36 for empty, one label, one after another, either, zero or more": as in a query table, operands are numbers of earlier
-- entries, and unused fields are zero.
pub data EntryRight (es : Entries) (i : ℕ) : Type 0 where
  nothing : entry_at es i ≡ fields 32 0 0 0 → EntryRight es i
  one_label : {l : ℕ} → Label l → entry_at es i ≡ fields 33 l 0 0 → EntryRight es i
  in_turn : {a b : ℕ} → a < i → b < i → entry_at es i ≡ fields 34 0 a b → EntryRight es i
  one_of_two : {a b : ℕ} → a < i → b < i → entry_at es i ≡ fields 35 0 a b → EntryRight es i
  any_times : {a : ℕ} → a < i → entry_at es i ≡ fields 36 0 a 0 → EntryRight es i

-- what an operand stands for, among what was read before
abbrev operand : List Expression → ℕ → Expression
operand before x = get_or before x empty

-- What an entry stands for, by its kind; one that is in order and of none of these kinds is of kind 32, "empty".
unfoldable pub mean : List Expression → Entry → Expression
mean before e =
    elim (eqb e.kind 33) [
      | true ↦ one e.label
      | false ↦ elim (eqb e.kind 34) [
        | true ↦ then (operand before e.left) (operand before e.right)
        | false ↦ elim (eqb e.kind 35) [
          | true ↦ either (operand before e.left) (operand before e.right)
          | false ↦ elim (eqb e.kind 36) [ true ↦ star (operand before e.left) | false ↦ empty ]
        ]
      ]
    ]

-- the expression that entry i stands for: as a query table, it is read from the front, each entry in what was read before it
unfoldable pub expression_at : Entries → ℕ → Expression
expression_at es i = get_or (read_on mean [] es) i empty

-- "The height of an entry is 1 without operands, otherwise 1 plus the greatest height of its operands", which is that of its expression.
unfoldable pub height : Expression → ℕ
height empty = 1
height (one l) = 1
height (then a b) = suc (max (height a) (height b))
height (either a b) = suc (max (height a) (height b))
height (star a) = suc (height a)
