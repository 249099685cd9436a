-- Entry tables: their bytes as entries, the sort and height of an entry, and the path or filter that it stands for.
use Rattle.std.specs.Prelude.{ℕ, suc, ◌-◌, ◌<◌, max, ◌≡◌, Bool, true, false, List, [], ◌∷◌, ◌++◌, length, get_or}
use Rattle.std.proofs.Math.Option.{Option, none, some}
use Rattle.reply.specs.Bytes.{Bytes, two, two_bytes}
use Rattle.tree.specs.Tree.{Label}
use Rattle.query.specs.Syntax as syntax
use Rattle.query.specs.Syntax.{Path, Filter}
use Rattle.query.specs.Kind.{Sort, Operand, unused, of, Kind, self, child, parent, next, previous, stay, then, either, star, labelled, leads, always, never, not, and, or, Row, row_of}

pub record Entry : Type 0 where
  pub kind : ℕ
  pub label : ℕ
  pub left : ℕ
  pub right : ℕ

abbrev pub Entries : Type 0
Entries = List Entry

-- "Query entry, 6 bytes: kind, label, left (two bytes), right (two bytes)."
unfoldable pub entries : Bytes → Entries
entries [] = []
entries (a ∷ []) = []
entries (a ∷ b ∷ []) = []
entries (a ∷ b ∷ c ∷ []) = []
entries (a ∷ b ∷ c ∷ d ∷ []) = []
entries (a ∷ b ∷ c ∷ d ∷ e ∷ []) = []
entries (kind ∷ label ∷ l ∷ l' ∷ r ∷ r' ∷ more) = record { kind = kind; label = label; left = two l l'; right = two r r' } ∷ entries more

unfoldable pub entry_bytes : Entries → Bytes
entry_bytes [] = []
entry_bytes (e ∷ more) = e.kind ∷ e.label ∷ two_bytes e.left ++ two_bytes e.right ++ entry_bytes more

abbrev blank : Entry
blank = record { kind = 0; label = 0; left = 0; right = 0 }

unfoldable pub entry_at : Entries → ℕ → Entry
entry_at es i = get_or es i blank

-- the row of an entry's kind, if there is one
unfoldable pub row_at : Entries → ℕ → Option Row
row_at es i = row_of (entry_at es i).kind

-- entry i is of this sort
pub record HasSort (es : Entries) (i : ℕ) (s : Sort) : Type 0 where
  pub row : Row
  pub listed : row_at es i ≡ some row
  pub sort : row.sort ≡ s

-- "Unused fields are zero."
unfoldable pub LabelField : Bool → ℕ → Type 0
LabelField true l = Label l
LabelField false l = l ≡ 0

-- "Operands are numbers of earlier entries", and "unused fields are zero".
unfoldable pub OperandField : Entries → ℕ → Operand → ℕ → Type 0
OperandField es i unused x = x ≡ 0
OperandField es i (of s) x = (x < i) × HasSort es x s

pub record EntryRight (es : Entries) (i : ℕ) : Type 0 where
  pub row : Row
  pub listed : row_at es i ≡ some row
  pub label : LabelField row.label (entry_at es i).label
  pub left : OperandField es i row.left (entry_at es i).left
  pub right : OperandField es i row.right (entry_at es i).right

-- A table is read from the front, each entry in what was read before it.
unfoldable pub read_on : {A : Type 0} → (List A → Entry → A) → List A → Entries → List A
read_on read before [] = before
read_on read before (e ∷ more) = read_on read (before ++ (read before e ∷ [])) more

-- "The height of an entry is 1 without operands, otherwise 1 plus the greatest height of its operands."
unfoldable pub operand_height : List ℕ → Operand → ℕ → ℕ
operand_height before unused x = 0
operand_height before (of s) x = get_or before x 0

unfoldable pub height : List ℕ → Entry → ℕ
height before e =
    elim (row_of e.kind) [
      | none ↦ 1
      | some row ↦ suc (max (operand_height before row.left e.left) (operand_height before row.right e.right))
    ]

unfoldable pub height_at : Entries → ℕ → ℕ
height_at es i = get_or (read_on height [] es) i 0

-- What an entry stands for.
pub data Meant : Type 0 where
  a_path : Path → Meant
  a_filter : Filter → Meant

unfoldable pub the_path : Meant → Path
the_path (a_path p) = p
the_path (a_filter f) = syntax.self

unfoldable pub the_filter : Meant → Filter
the_filter (a_path p) = syntax.never
the_filter (a_filter f) = f

module _ (before : List Meant) where
  unfoldable pub path_in : ℕ → Path
  path_in i = the_path (get_or before i (a_path syntax.self))

  unfoldable pub filter_in : ℕ → Filter
  filter_in i = the_filter (get_or before i (a_path syntax.self))

-- The list of kinds' column "meaning", with the operands' meaning read before.
unfoldable pub build : List Meant → Kind → Entry → Meant
build before self e = a_path syntax.self
build before child e = a_path syntax.child
build before parent e = a_path syntax.parent
build before next e = a_path syntax.next
build before previous e = a_path syntax.previous
build before stay e = a_path (syntax.stay (filter_in before e.left))
build before then e = a_path (syntax.then (path_in before e.left) (path_in before e.right))
build before either e = a_path (syntax.either (path_in before e.left) (path_in before e.right))
build before star e = a_path (syntax.star (path_in before e.left))
build before labelled e = a_filter (syntax.labelled e.label)
build before leads e = a_filter (syntax.leads (path_in before e.left))
build before always e = a_filter syntax.always
build before never e = a_filter syntax.never
build before not e = a_filter (syntax.not (filter_in before e.left))
build before and e = a_filter (syntax.and (filter_in before e.left) (filter_in before e.right))
build before or e = a_filter (syntax.or (filter_in before e.left) (filter_in before e.right))

unfoldable pub mean : List Meant → Entry → Meant
mean before e = elim (row_of e.kind) [ none ↦ a_path syntax.self | some row ↦ build before row.kind e ]

unfoldable pub meanings : Entries → List Meant
meanings es = read_on mean [] es

-- the filter that entry i stands for
unfoldable pub filter_at : Entries → ℕ → Filter
filter_at es i = filter_in (meanings es) i

-- the path that entry i stands for
unfoldable pub path_at : Entries → ℕ → Path
path_at es i = path_in (meanings es) i

-- "The last entry of a query table is the query".
unfoldable pub query_of : Entries → Path
unfolding path_at
query_of es = path_at es (length es - 1)
