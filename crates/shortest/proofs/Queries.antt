-- The path that a query stands for has labels, and is no higher than the query's last entry: by induction over the entries, each of which
-- stands for something made of what earlier ones stand for. Assumes nothing.
use Prim.Native.Nat.{ℕ, zero, suc, ◌-◌, ◌≤◌, ◌<◌, max}
use native.Mathlib.Omega.{arith}
use mathlib.Core.Path.{◌≡◌, refl}
use mathlib.Core.List.{List, []}
use mathlib.Core.Option.{some}
use lib.ListN.{length, get_or, take}
use lib.Seq.{get_or-take}
use Rattle.reply.specs.Bytes.{Bytes}
use Rattle.query.specs.Syntax as syntax
use Rattle.query.specs.Syntax.{Path, Filter}
use Rattle.query.specs.Kind.{Operand, unused, of, Row, kinds, row_of}
use Rattle.query.specs.Table.{Entry, Entries, entries, entry_at, row_at, LabelField, OperandField, EntryRight}
use Rattle.query.specs.Table.{read_on, operand_height, height, height_at}
use Rattle.query.specs.Table.{Meant, a_path, a_filter, the_path, the_filter, path_in, filter_in, build, mean, meanings, path_at, query_of}
use Rattle.query.specs.Fault.{Limits, Query}
use Rattle.query.proofs.Rows.{Each, ◌&◌, no_more, row_found}
use Rattle.query.proofs.Tables.{read_at, entries_length}
use Rattle.shortest.proofs.Texts.{PathLabels, FilterLabels}
use Rattle.shortest.proofs.Heights.{path_height, filter_height}

-- Taken as a path or as a filter, it has labels and is at most h high.
record Fine (m : Meant) (h : ℕ) : Type 0 where
  path_labels : PathLabels (the_path m)
  path_low : path_height (the_path m) ≤ h
  filter_labels : FilterLabels (the_filter m)
  filter_low : filter_height (the_filter m) ≤ h

-- a path taken as a filter is `never`, a filter taken as a path is `self`
fine_path : {p : Path} {h : ℕ} → PathLabels p → path_height p ≤ suc h → Fine (a_path p) (suc h)
unfolding the_path the_filter filter_height
fine_path labels low = record { path_labels = labels; path_low = low; filter_labels = tt; filter_low = omega arith }

fine_filter : {f : Filter} {h : ℕ} → FilterLabels f → filter_height f ≤ suc h → Fine (a_filter f) (suc h)
unfolding the_path the_filter path_height
fine_filter labels low = record { path_labels = tt; path_low = omega arith; filter_labels = labels; filter_low = low }

-- what a kind makes of nothing, of one operand and of two is no higher than its entry
alone_path : {p : Path} {h : ℕ} → PathLabels p → path_height p ≡ 1 → Fine (a_path p) (suc h)
alone_path labels low = fine_path labels (omega arith)

alone_filter : {f : Filter} {h : ℕ} → FilterLabels f → filter_height f ≡ 1 → Fine (a_filter f) (suc h)
alone_filter labels low = fine_filter labels (omega arith)

module _ {x : Meant} {h : ℕ} (l : Fine x h) where
  stay_fine : Fine (a_path (syntax.stay (the_filter x))) (suc (max h 0))
  unfolding path_height filter_height
  stay_fine = let low = l.filter_low in fine_path l.filter_labels (omega arith)

  star_fine : Fine (a_path (syntax.star (the_path x))) (suc (max h 0))
  unfolding path_height filter_height
  star_fine = let low = l.path_low in fine_path l.path_labels (omega arith)

  leads_fine : Fine (a_filter (syntax.leads (the_path x))) (suc (max h 0))
  unfolding path_height filter_height
  leads_fine = let low = l.path_low in fine_filter l.path_labels (omega arith)

  not_fine : Fine (a_filter (syntax.not (the_filter x))) (suc (max h 0))
  unfolding path_height filter_height
  not_fine = let low = l.filter_low in fine_filter l.filter_labels (omega arith)

  module _ {y : Meant} {k : ℕ} (r : Fine y k) where
    then_fine : Fine (a_path (syntax.then (the_path x) (the_path y))) (suc (max h k))
    unfolding path_height filter_height
    then_fine = let low = l.path_low in let low' = r.path_low in fine_path (l.path_labels, r.path_labels) (omega arith)

    either_fine : Fine (a_path (syntax.either (the_path x) (the_path y))) (suc (max h k))
    unfolding path_height filter_height
    either_fine = let low = l.path_low in let low' = r.path_low in fine_path (l.path_labels, r.path_labels) (omega arith)

    and_fine : Fine (a_filter (syntax.and (the_filter x) (the_filter y))) (suc (max h k))
    unfolding path_height filter_height
    and_fine = let low = l.filter_low in let low' = r.filter_low in fine_filter (l.filter_labels, r.filter_labels) (omega arith)

    or_fine : Fine (a_filter (syntax.or (the_filter x) (the_filter y))) (suc (max h k))
    unfolding path_height filter_height
    or_fine = let low = l.filter_low in let low' = r.filter_low in fine_filter (l.filter_labels, r.filter_labels) (omega arith)

-- what the entries before one stand for, and their heights
module _ (ms : List Meant) (hs : List ℕ) where
  -- an operand that is used is fine
  abbrev FineOperand : Operand → ℕ → Type 0
  FineOperand unused x = Unit {0}
  FineOperand (of s) x = Fine (get_or ms x (a_path syntax.self)) (get_or hs x 0)

  -- an entry of a kind with a row, whose label and operands are in order, is fine
  abbrev FineAs : Entry → Row → Type 0
  FineAs e row =
      LabelField row.label e.label → FineOperand row.left e.left → FineOperand row.right e.right
      → Fine (build ms row.kind e) (suc (max (operand_height hs row.left e.left) (operand_height hs row.right e.right)))

  -- for each kind: five steps, the other paths, and the filters
  built_fine : (e : Entry) → Each (FineAs e) kinds
  unfolding build kinds LabelField path_in filter_in operand_height path_height filter_height
  built_fine e =
      (λ label l r. alone_path tt refl)
      & (λ label l r. alone_path tt refl)
      & (λ label l r. alone_path tt refl)
      & (λ label l r. alone_path tt refl)
      & (λ label l r. alone_path tt refl)
      & (λ label l r. stay_fine l)
      & (λ label l r. then_fine l r)
      & (λ label l r. either_fine l r)
      & (λ label l r. star_fine l)
      & (λ label l r. alone_filter label refl)
      & (λ label l r. leads_fine l)
      & (λ label l r. alone_filter tt refl)
      & (λ label l r. alone_filter tt refl)
      & (λ label l r. not_fine l)
      & (λ label l r. and_fine l r)
      & (λ label l r. or_fine l r)
      & no_more

  -- and so as it is read
  read_fine : (e : Entry) {row : Row} → row_of e.kind ≡ some row → LabelField row.label e.label → FineOperand row.left e.left
      → FineOperand row.right e.right → Fine (mean ms e) (height hs e)
  unfolding mean height
  read_fine e {row} listed label l r = rw (listed, mean, height) ((row_found (FineAs e) (built_fine e) listed).0 label l r)

module _ (es : Entries) (right : (i : ℕ) → i < length es → EntryRight es i) where
  -- what entry i stands for is fine
  abbrev FineAt : ℕ → Type 0
  FineAt i = Fine (get_or (meanings es) i (a_path syntax.self)) (height_at es i)

  module _ (i : ℕ) (within : i < length es) (earlier : (k : ℕ) → k < i → FineAt k) where
    -- an operand is an earlier entry
    operand_fine : (o : Operand) (x : ℕ) → OperandField es i o x → FineOperand (take i (meanings es)) (take i (read_on height [] es)) o x
    unfolding OperandField height_at
    operand_fine unused x h = tt
    operand_fine (of s) x h =
        rw (get_or-take i (meanings es) x (a_path syntax.self) h.0, get_or-take i (read_on height [] es) x 0 h.0) (earlier x h.0)

    -- so the entry is fine,
    entry_fine : FineAt i
    unfolding row_at entry_at meanings height_at
    entry_fine =
        let r = right i within in
        let e : Entry = entry_at es i in
        let blank : Entry = record { kind = 0; label = 0; left = 0; right = 0 } in
        let left = operand_fine r.row.left e.left r.left in
        let right = operand_fine r.row.right e.right r.right in
        rw (read_at mean es i (a_path syntax.self) blank within, read_at height es i 0 blank within)
        (read_fine _ _ e r.listed r.label left right)

  -- and each of those below n
  each_fine : (n i : ℕ) → i < n → i < length es → FineAt i
  each_fine zero i l within = absurd (omega arith)
  each_fine (suc n) i l within = entry_fine i within (λ k m. each_fine n k (omega arith) (omega arith))

-- The path of a query has labels, and is within the limit of height.
pub record Limited (limit : Limits) (p : Path) : Type 0 where
  pub labels : PathLabels p
  pub low : path_height p ≤ limit.height

pub query_limited : {limit : Limits} {table : Bytes} → Query limit table → Limited limit (query_of (entries table))
unfolding query_of path_at path_in
query_limited {table = table} q =
    let es : Entries = entries table in
    let some = q.size.some in
    let whole = q.size.size.multiple in
    let last : length es - 1 < length es = omega (arith, entries_length table) in
    let fine = each_fine es (λ i l. (q.entry i l).right) (length es) (length es - 1) last last in
    record { labels = fine.path_labels; low = omega (arith, fine.path_low, (q.entry (length es - 1) last).low) }
