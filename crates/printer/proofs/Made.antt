-- The text of an entry is made of those of its operands, by its kind. Assumes nothing.
use Prim.Native.Nat.{ℕ, ◌+◌, ◌≤◌, ◌<◌}
use native.Mathlib.Omega.{arith}
use Prim.Native.Char.{code}
use mathlib.Core.Path.{◌≡◌, refl, sym, ap, ◌∙◌}
use mathlib.Core.Bool.{true}
use mathlib.Core.List.{List, [], ◌∷◌, ◌++◌}
use mathlib.Core.Option.{some}
use borrow.Author.Tests.{le-leb, lt-leb}
use lib.ListN.{length, get_or, take}
use Rattle.reply.specs.Bytes.{Bytes}
use Rattle.query.specs.Syntax as syntax
use Rattle.tree.specs.Tree.{Label}
use Rattle.query.specs.Kind.{Sort, path, filter, unused, of, labelled, Row, kinds, find, row_of}
use Rattle.query.specs.Table.{Entry, Entries, entries, entry_at, row_at, HasSort, OperandField, EntryRight, Meant, a_path, a_filter}
use Rattle.query.specs.Table.{LabelField, the_path, the_filter, path_in, filter_in, build, mean, meanings, path_at, filter_at}
use Rattle.query.proofs.Rows.{Each, ◌&◌, no_more, row_found}
use Rattle.query.proofs.Tables.{read_at}
use Rattle.query.proofs.Standing as standing
use Rattle.shortest.proofs.Shown.{path_rank, filter_rank, between, held, path_held, filter_held, label_shown, path_shown, filter_shown}
use Rattle.std.specs.Prelude.{Option, Some}
use Rattle.tables.specs.declared.kinds.Kind.{Kind}
use Rattle.tables.specs.declared.entry.Entry as tables
use Rattle.tables.specs.Kind.{number, Stands}
use Rattle.tables.specs.Fields.{Fields}
use Rattle.tables.proofs.Found.{found_is}
use Rattle.printer.specs.Printing.{HasEntry, meant_shown, meant_held, meant_at, entry_shown, entry_held, ranks, opening_for, closing_for}

-- what an entry of a sort stands for
abbrev as_meant : Sort → Entries → ℕ → Meant
as_meant path es i = a_path (path_at es i)
as_meant filter es i = a_filter (filter_at es i)

-- what stands for a path, taken as one
abbrev Sorted : Sort → Meant → Type 0
Sorted path x = x ≡ a_path (the_path x)
Sorted filter x = x ≡ a_filter (the_filter x)

-- a kind builds what has its sort
build_sorted : (before : List Meant) (e : Entry) {row : Row} → row_of e.kind ≡ some row → Sorted row.sort (build before row.kind e)
unfolding build kinds the_path the_filter
build_sorted before e listed =
    (row_found (λ row. Sorted row.sort (build before row.kind e))
    (refl & refl & refl & refl & refl & refl & refl & refl & refl & refl & refl & refl & refl & refl & refl & refl & no_more) listed).0

-- where nothing is asked for, there are no brackets
pub unbracketed : (o c rank : ℕ) (s : Bytes) → held o c 0 rank s ≡ s
unfolding held
unbracketed o c rank s = rw (le-leb 0 rank (omega arith))

module _ (es : Entries) (i : ℕ) (within : i < length es) where
  -- an entry of a sort stands for something of the sort
  sorted : (s : Sort) → HasSort es i s → Sorted s (meant_at es i)
  unfolding meanings mean row_at entry_at
  sorted s h =
      let blank : Entry = record { kind = 0; label = 0; left = 0; right = 0 } in
      rw (← h.sort, read_at mean es i (a_path syntax.self) blank within, h.listed, mean) (build_sorted _ (entry_at es i) h.listed)

-- the text of what has a sort, in brackets if it is looser than asked for
abbrev held_as : Sort → ℕ → Entries → ℕ → Bytes
held_as path least es i = path_held least (path_at es i) (path_shown (path_at es i))
held_as filter least es i = filter_held least (filter_at es i) (filter_shown (filter_at es i))

-- and with none around it
abbrev shown_as : Sort → Entries → ℕ → Bytes
shown_as path es i = path_shown (path_at es i)
shown_as filter es i = filter_shown (filter_at es i)

module _ (es : Entries) (i : ℕ) (within : i < length es) where
  pub held_as_lem : (s : Sort) → HasSort es i s → (least : ℕ) → entry_held least es i ≡ held_as s least es i
  unfolding entry_held path_at path_in filter_at filter_in
  held_as_lem path h least = ap (meant_held least) (sorted es i within path h)
  held_as_lem filter h least = ap (meant_held least) (sorted es i within filter h)

  shown_as_lem : (s : Sort) → HasSort es i s → entry_shown es i ≡ shown_as s es i
  unfolding entry_shown path_at path_in filter_at filter_in
  shown_as_lem path h = ap meant_shown (sorted es i within path h)
  shown_as_lem filter h = ap meant_shown (sorted es i within filter h)

-- what a kind makes is held as its number says
abbrev HeldBy : List Meant → Entry → ℕ → Row → Type 0
HeldBy before e least row =
    meant_held least (build before row.kind e)
    ≡ held (opening_for row.number) (closing_for row.number) least (get_or ranks row.number 0)
    (meant_shown (build before row.kind e))

built_held : (before : List Meant) (e : Entry) (least : ℕ) → Each (HeldBy before e least) kinds
unfolding build kinds path_held filter_held path_rank filter_rank
built_held before e least =
    refl & refl & refl & refl & refl & refl & refl & refl & refl & refl & refl & refl & refl & refl & refl & refl & no_more

-- An entry e of a table in order, of a listed kind.
module _ {table : Bytes} {e : ℕ} (has : HasEntry table e) where
  abbrev es : Entries
  es = entries table

  abbrev own : Entry
  own = entry_at es e

  -- it is in order
  right : EntryRight es e
  right = has.order e has.within

  -- it has its kind's sort
  of_sort : (kind : ℕ) {row : Row} → row_of kind ≡ some row → own.kind ≡ kind → HasSort es e row.sort
  unfolding row_at
  of_sort kind {row} listed is = record { row = row; listed = ap row_of is ∙ listed; sort = refl }

  -- an operand's text
  operand_held : (s : Sort) (y : ℕ) → OperandField es e (of s) y → (least : ℕ) → entry_held least es y ≡ held_as s least es y
  unfolding OperandField
  operand_held s y f least = held_as_lem es y (omega (arith, f.0)) s f.1 least

  -- One operand: what is around its text.
  around : (s t : Sort) (least : ℕ) (f : Bytes → Bytes) → HasSort es e s → OperandField es e (of t) own.left
      → shown_as s es e ≡ f (held_as t least es own.left) → (own.left < e) × (entry_shown es e ≡ f (entry_held least es own.left))
  unfolding OperandField
  around s t least f sort operand same =
      (operand.0, shown_as_lem es e has.within s sort ∙ same ∙ ap f (sym (operand_held t own.left operand least)))

  pub stay_shown : own.kind ≡ 6 → (own.left < e) × (entry_shown es e ≡ code "[" ∷ entry_held 0 es own.left ++ code "]" ∷ [])
  unfolding kinds find path_shown between filter_held
  stay_shown is =
      let (f, same) = standing.stay_stands es e has.within own refl right is in
      around path filter 0 (λ x. code "[" ∷ x ++ code "]" ∷ []) (of_sort 6 refl is) f (rw (same, unbracketed) refl)

  pub star_shown : own.kind ≡ 9 → (own.left < e) × (entry_shown es e ≡ entry_held 3 es own.left ++ code "*" ∷ [])
  unfolding kinds find path_shown
  star_shown is =
      let (f, same) = standing.star_stands es e has.within own refl right is in
      around path path 3 (λ x. x ++ code "*" ∷ []) (of_sort 9 refl is) f (ap path_shown same)

  pub leads_shown : own.kind ≡ 17 → (own.left < e) × (entry_shown es e ≡ entry_held 0 es own.left)
  unfolding kinds find filter_shown path_held
  leads_shown is =
      let (f, same) = standing.leads_stands es e has.within own refl right is in
      around filter path 0 (λ x. x) (of_sort 17 refl is) f (rw (same, unbracketed) refl)

  pub not_shown : own.kind ≡ 20 → (own.left < e) × (entry_shown es e ≡ code "!" ∷ entry_held 2 es own.left)
  unfolding kinds find filter_shown
  not_shown is =
      let (f, same) = standing.not_stands es e has.within own refl right is in
      around filter filter 2 (λ x. code "!" ∷ x) (of_sort 20 refl is) f (ap filter_shown same)

  -- two operands, joined by a byte: the right one is held one rank tighter
  abbrev pub Joined : ℕ → ℕ → Type 0
  Joined rank byte =
      (own.left < e) × (own.right < e)
      × (entry_shown es e ≡ entry_held rank es own.left ++ byte ∷ entry_held (rank + 1) es own.right)

  joined : (s : Sort) (rank byte : ℕ) → HasSort es e s → OperandField es e (of s) own.left → OperandField es e (of s) own.right
      → shown_as s es e ≡ held_as s rank es own.left ++ byte ∷ held_as s (rank + 1) es own.right → Joined rank byte
  unfolding OperandField
  joined s rank byte sort f g same =
      let held_left = operand_held s own.left f rank in
      let held_right = operand_held s own.right g (rank + 1) in
      (f.0, g.0, shown_as_lem es e has.within s sort ∙ rw (same, held_left, held_right))

  pub then_shown : own.kind ≡ 7 → Joined 1 (code "/")
  unfolding kinds find path_shown
  then_shown is =
      let ((f, g), same) = standing.then_stands es e has.within own refl right is in
      joined path 1 (code "/") (of_sort 7 refl is) f g (ap path_shown same)

  pub either_shown : own.kind ≡ 8 → Joined 0 (code "|")
  unfolding kinds find path_shown path_held
  either_shown is =
      let ((f, g), same) = standing.either_stands es e has.within own refl right is in
      joined path 0 (code "|") (of_sort 8 refl is) f g (rw (same, unbracketed) refl)

  pub and_shown : own.kind ≡ 21 → Joined 1 (code "&")
  unfolding kinds find filter_shown
  and_shown is =
      let ((f, g), same) = standing.and_stands es e has.within own refl right is in
      joined filter 1 (code "&") (of_sort 21 refl is) f g (ap filter_shown same)

  pub or_shown : own.kind ≡ 22 → Joined 0 (code "+")
  unfolding kinds find filter_shown filter_held
  or_shown is =
      let ((f, g), same) = standing.or_stands es e has.within own refl right is in
      joined filter 0 (code "+") (of_sort 22 refl is) f g (rw (same, unbracketed) refl)

  pub label_shown_lem : own.kind ≡ 16 → (own.label ≤ 64) × (entry_shown es e ≡ code "#" ∷ label_shown own.label)
  unfolding kinds find filter_shown build the_filter LabelField row_at
  label_shown_lem is =
      let row : Row = record { number = 16; kind = labelled; sort = filter; left = unused; right = unused; label = true } in
      let same : some right.row ≡ some row = sym right.listed ∙ ap row_of is in
      let same_row : right.row ≡ row = cc in
      let label : Label own.label = rw same_row at right.label in
      let stands = standing.filter_stands es e has.within own refl 16 _ refl is in
      (label.most, shown_as_lem es e has.within filter (of_sort 16 refl is) ∙ ap filter_shown stands)

  -- what a kind that takes neither operands nor a label makes is its byte
  pub leaf_shown : (kind : ℕ) {row : Row} → row_of kind ≡ some row → own.kind ≡ kind
      → entry_shown es e ≡ meant_shown (build (take e (meanings es)) row.kind own)
  unfolding entry_shown meanings mean row_at entry_at
  leaf_shown kind listed is =
      let blank : Entry = record { kind = 0; label = 0; left = 0; right = 0 } in
      rw (read_at mean es e (a_path syntax.self) blank has.within, is, listed, mean) refl

  -- in brackets, by its kind: where it is looser than asked for
  held_by : (least : ℕ)
      → entry_held least es e ≡ held (opening_for own.kind) (closing_for own.kind) least (get_or ranks own.kind 0) (entry_shown es e)
  unfolding entry_held entry_shown meanings mean row_at entry_at
  held_by least =
      let blank : Entry = record { kind = 0; label = 0; left = 0; right = 0 } in
      let (same, number) = row_found (HeldBy (take e (meanings es)) own least) (built_held _ own least) right.listed in
      rw (read_at mean es e (a_path syntax.self) blank has.within, right.listed, mean) (rw number at same)

  module _ (least : ℕ) where
    -- it is tight enough
    pub held_bare : least ≤ get_or ranks own.kind 0 → entry_held least es e ≡ entry_shown es e
    unfolding held
    held_bare l = held_by least ∙ rw (le-leb least (get_or ranks own.kind 0) l)

    -- it is too loose
    pub held_between : get_or ranks own.kind 0 < least
        → entry_held least es e ≡ opening_for own.kind ∷ entry_shown es e ++ closing_for own.kind ∷ []
    unfolding held between
    held_between l = held_by least ∙ rw (lt-leb least (get_or ranks own.kind 0) l)

-- the kind of an entry, by what was read of it
pub kind_is : {entry : Entry} {read : tables.Entry} {found : Option Kind} {kind is : Kind} → Fields entry read → Stands read.kind found
    → found ≡ Some kind → kind ≡ is → entry.kind ≡ number is
kind_is fields stands e same = sym fields.kind ∙ found_is stands e ∙ ap number same
