-- What an entry in order stands for: the path or filter of its kind, over what its operands stand for. One law for all kinds, and a line for
-- each of them, so that nobody who goes through a table unfolds how it is read. Assumes nothing.
use Prim.Native.Nat.{ℕ, ◌≤◌, ◌<◌}
use mathlib.Core.Path.{◌≡◌, refl, sym, ap, ap₂, ◌∙◌}
use mathlib.Core.List.{List}
use mathlib.Core.Option.{Option, none, some}
use mathlib.Core.Bool.{Bool, ◌&&◌}
use lib.Dec.{T, leb, leb→le}
use mir.Facts.{and_yes}
use lib.ListN.{length, get_or, take}
use lib.Seq.{get_or-take}
use Rattle.query.specs.Syntax as syntax
use Rattle.query.specs.Kind.{Sort, path, filter, of, Row, kinds, find, row_of}
use Rattle.query.specs.Table.{Entry, Entries, entry_at, row_at, OperandField, EntryRight, HasSort, Meant, a_path, the_path, the_filter, path_in, filter_in, build, mean, meanings, path_at, filter_at}
use Rattle.query.proofs.Rows.{◌&◌, no_more, row_found}
use Rattle.query.proofs.Tables.{read_at}

-- A path or a filter, by its sort: of what was read, among what was read before, and of an entry.
abbrev Part : Sort → Type 0
Part path = syntax.Path
Part filter = syntax.Filter

abbrev part_of : (s : Sort) → Meant → Part s
part_of path = the_path
part_of filter = the_filter

abbrev part_in : (s : Sort) → List Meant → ℕ → Part s
part_in path = path_in
part_in filter = filter_in

abbrev part_at : (s : Sort) → Entries → ℕ → Part s
part_at path = path_at
part_at filter = filter_at

-- entry i of a table is x
module _ (es : Entries) (i : ℕ) (within : i < length es) (x : Entry) (at : entry_at es i ≡ x) where
  -- the meaning of the entries before it, which its operands are looked up in
  unfoldable pub before : List Meant
  unfolding meanings
  before = take i (meanings es)

  part_before : (s : Sort) (n : ℕ) → n < i → part_in s before n ≡ part_at s es n
  unfolding before path_in path_at filter_in filter_at
  part_before path n l = ap the_path (get_or-take i (meanings es) n (a_path syntax.self) l)
  part_before filter n l = ap the_filter (get_or-take i (meanings es) n (a_path syntax.self) l)

  module _ (kind : ℕ) (row : Row) (listed : row_of kind ≡ some row) (is : x.kind ≡ kind) where
    -- an entry of a listed kind means what its kind builds
    meant : get_or (meanings es) i (a_path syntax.self) ≡ build before row.kind x
    unfolding before meanings mean entry_at
    meant =
        read_at mean es i (a_path syntax.self) _ within
        ∙ ap (λ (e : Entry). elim (row_of e.kind) [ none ↦ a_path syntax.self | some row ↦ build before row.kind e ]) at
        ∙ ap (λ (r : Option Row). elim r [ none ↦ a_path syntax.self | some row ↦ build before row.kind x ]) (ap row_of is ∙ listed)

    -- for a kind with no operands these compute
    pub path_stands : path_at es i ≡ the_path (build before row.kind x)
    unfolding path_at path_in
    path_stands = ap the_path meant

    pub filter_stands : filter_at es i ≡ the_filter (build before row.kind x)
    unfolding filter_at filter_in
    filter_stands = ap the_filter meant

    part_stands : (s : Sort) → part_at s es i ≡ part_of s (build before row.kind x)
    part_stands path = path_stands
    part_stands filter = filter_stands

    -- Its operands are as its row says, and it stands for what its kind makes of what they stand for.
    module _ (right : EntryRight es i) where
      same_row : right.row ≡ row
      unfolding row_at
      same_row = let e : some right.row ≡ some row = sym right.listed ∙ ap (λ (e : Entry). row_of e.kind) at ∙ ap row_of is ∙ listed in cc

      left_operand : OperandField es i row.left x.left
      left_operand = rw (← same_row, ← at) right.left

      right_operand : OperandField es i row.right x.right
      right_operand = rw (← same_row, ← at) right.right

      one_operand : {s : Sort} (r : Sort) (make : Part s → Part r) → row.left ≡ of s
          → part_of r (build before row.kind x) ≡ make (part_in s before x.left)
          → OperandField es i (of s) x.left × (part_at r es i ≡ make (part_at s es x.left))
      unfolding OperandField
      one_operand {s} r make takes made =
          let l : OperandField es i (of s) x.left = rw takes at left_operand in
          (l, part_stands r ∙ made ∙ ap make (part_before s x.left l.0))

      two_operands : {s : Sort} (r : Sort) (make : Part s → Part s → Part r) → row.left ≡ of s → row.right ≡ of s
          → part_of r (build before row.kind x) ≡ make (part_in s before x.left) (part_in s before x.right)
          → (OperandField es i (of s) x.left × OperandField es i (of s) x.right)
          × (part_at r es i ≡ make (part_at s es x.left) (part_at s es x.right))
      unfolding OperandField
      two_operands {s} r make takes also made =
          let left : OperandField es i (of s) x.left = rw takes at left_operand in
          let behind : OperandField es i (of s) x.right = rw also at right_operand in (
            (left, behind),
            part_stands r ∙ made ∙ ap₂ make (part_before s x.left left.0) (part_before s x.right behind.0),
          )

  -- the kinds with operands, by their numbers
  module _ (right : EntryRight es i) where
    -- both operands are earlier entries of the sort
    abbrev pub Both : Sort → Type 0
    Both s = OperandField es i (of s) x.left × OperandField es i (of s) x.right

    pub stay_stands : x.kind ≡ 6 → OperandField es i (of filter) x.left × (path_at es i ≡ syntax.stay (filter_at es x.left))
    unfolding the_path build kinds find
    stay_stands is = one_operand 6 _ refl is right path syntax.stay refl refl

    pub then_stands : x.kind ≡ 7 → Both path × (path_at es i ≡ syntax.then (path_at es x.left) (path_at es x.right))
    unfolding the_path build kinds find
    then_stands is = two_operands 7 _ refl is right path syntax.then refl refl refl

    pub either_stands : x.kind ≡ 8 → Both path × (path_at es i ≡ syntax.either (path_at es x.left) (path_at es x.right))
    unfolding the_path build kinds find
    either_stands is = two_operands 8 _ refl is right path syntax.either refl refl refl

    pub star_stands : x.kind ≡ 9 → OperandField es i (of path) x.left × (path_at es i ≡ syntax.star (path_at es x.left))
    unfolding the_path build kinds find
    star_stands is = one_operand 9 _ refl is right path syntax.star refl refl

    pub leads_stands : x.kind ≡ 17 → OperandField es i (of path) x.left × (filter_at es i ≡ syntax.leads (path_at es x.left))
    unfolding the_filter build kinds find
    leads_stands is = one_operand 17 _ refl is right filter syntax.leads refl refl

    pub not_stands : x.kind ≡ 20 → OperandField es i (of filter) x.left × (filter_at es i ≡ syntax.not (filter_at es x.left))
    unfolding the_filter build kinds find
    not_stands is = one_operand 20 _ refl is right filter syntax.not refl refl

    pub and_stands : x.kind ≡ 21 → Both filter × (filter_at es i ≡ syntax.and (filter_at es x.left) (filter_at es x.right))
    unfolding the_filter build kinds find
    and_stands is = two_operands 21 _ refl is right filter syntax.and refl refl refl

    pub or_stands : x.kind ≡ 22 → Both filter × (filter_at es i ≡ syntax.or (filter_at es x.left) (filter_at es x.right))
    unfolding the_filter build kinds find
    or_stands is = two_operands 22 _ refl is right filter syntax.or refl refl refl

-- The kinds of paths are 1 to 9, those of filters 16 to 22: so it is of each row of the list.
unfoldable in_range : Sort → ℕ → Bool
in_range path n = leb 1 n && leb n 9
in_range filter n = leb 16 n && leb n 22

between : (low high n : ℕ) → T (leb low n && leb n high) → (low ≤ n) × (n ≤ high)
between low high n t = let (l, h) = and_yes (leb low n) (leb n high) t in (leb→le low n l, leb→le n high h)

module _ (es : Entries) (i : ℕ) where
  -- an entry of a sort has a number in the sort's range
  in_range_lem : {s : Sort} → HasSort es i s → T (in_range s (entry_at es i).kind)
  unfolding row_at kinds in_range
  in_range_lem h =
      let (t, n) =
      row_found (λ row. T (in_range row.sort row.number))
      (tt & tt & tt & tt & tt & tt & tt & tt & tt & tt & tt & tt & tt & tt & tt & tt & no_more) h.listed in
      rw (h.sort, n) at t

  pub path_kind : HasSort es i path → (1 ≤ (entry_at es i).kind) × ((entry_at es i).kind ≤ 9)
  unfolding in_range
  path_kind h = between 1 9 (entry_at es i).kind (in_range_lem h)

  pub filter_kind : HasSort es i filter → (16 ≤ (entry_at es i).kind) × ((entry_at es i).kind ≤ 22)
  unfolding in_range
  filter_kind h = between 16 22 (entry_at es i).kind (in_range_lem h)
