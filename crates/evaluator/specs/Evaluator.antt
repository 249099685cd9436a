-- What an evaluation rests on.
use Rattle.std.specs.Prelude.{ℕ, ◌<◌, ◌≡◌, ◌↔◌, ◌⊎◌, List, length}
use Rattle.reply.specs.Bytes.{Bytes}
use Rattle.tree.specs.Tree.{Tree}
use Rattle.roll.specs.Roll.{nodes, Roll}
use Rattle.query.specs.Syntax.{Path}
use Rattle.query.specs.Kind.{Sort}
use Rattle.query.specs.Meaning.{reach, holds}
use Rattle.query.specs.Table.{entries, HasSort, filter_at}
use Rattle.tables.specs.Promise.{EntriesRight}
use Rattle.sets.specs.Sets.{In, Inside}
use Rattle.links.specs.Links.{Siblings}

-- a roll with its links, and a table whose entries are in order
pub record Grounds (roll table : Bytes) (links : List ℕ) : Type 0 where
  pub roll_right : Roll roll
  pub linked : Siblings (nodes roll) links
  pub each : EntriesRight table

-- the nodes where the filter of entry `known` holds, if the table has such an entry
abbrev pub Held : Bytes → Bytes → ℕ → List ℕ → Type 0
Held roll table known holding =
    known < length (entries table) → (k : ℕ) → k < length (nodes roll) → In holding k ↔ holds (nodes roll) (filter_at (entries table) known) k

-- all that an evaluation is given
pub record Knowing (roll table : Bytes) (links : List ℕ) (known : ℕ) (holding : List ℕ) : Type 0 where
  pub grounds : Grounds roll table links
  pub answer : Held roll table known holding

-- the table has an entry e of a sort
pub record Within (table : Bytes) (s : Sort) (e : ℕ) : Type 0 where
  pub within : e < length (entries table)
  pub sort : HasSort (entries table) e s

-- entry e of a sort is asked of a set of nodes
pub record Asked (roll table : Bytes) (s : Sort) (e : ℕ) (from : List ℕ) : Type 0 where
  pub entry : Within table s e
  pub nodes_only : Inside (length (nodes roll)) from

-- the path stays where it is
abbrev pub Still : Path → Type 0
Still p = (t : Tree) (i j : ℕ) → reach t p i j → i ≡ j

-- the sources of a star that starts from a set: only nodes where the path leads to itself, and all of them, unless it does so nowhere in
-- the set
pub record Sources (t : Tree) (p : Path) (from sources : List ℕ) : Type 0 where
  pub sound : (k : ℕ) → In sources k → reach t p k k
  pub whole : ((k : ℕ) → k < length t → reach t p k k → In sources k) ⊎ ((k : ℕ) → In from k → ¬ reach t p k k)
