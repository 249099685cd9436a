-- What is known once an entry is read: what it stands for, by its kind, and that its operands can be asked in their turn. Assumes nothing.
use Prim.Native.Nat.{ℕ, ◌+◌, ◌*◌, ◌<◌}
use native.Mathlib.Omega.{arith}
use mathlib.Core.Path.{◌≡◌, refl}
use mathlib.Core.Logic.{◌↔◌}
use mathlib.Core.List.{List}
use Rattle.std.specs.Prelude.{Option, IsSome}
use lib.ListN.{length}
use Rattle.reply.specs.Bytes.{Bytes}
use Rattle.roll.specs.Roll.{nodes}
use Rattle.tree.specs.Tree.{Tree}
use Rattle.roll.proofs.Deciding.{roll_in_order}
use Rattle.query.specs.Syntax as syntax
use Rattle.query.specs.Syntax.{Path}
use Rattle.query.specs.Meaning.{reach}
use Rattle.query.specs.Kind.{Sort, path, of, kinds, find}
use Rattle.query.specs.Table as table
use Rattle.query.specs.Table.{entries, entry_at, OperandField, EntryRight, the_path, the_filter, build, path_at, filter_at}
use Rattle.query.proofs.Standing as standing
use Rattle.sets.specs.Sets.{Inside}
use Rattle.tables.specs.Fields.{Fields}
use Rattle.tables.specs.declared.entry.Entry.{Entry}
use Rattle.tables.specs.Promise.{EntriesRight}
use Rattle.tables.specs.declared.kinds.Kind.{Kind}
use Rattle.tables.specs.Kind.{Stands}
use Rattle.tables.proofs.Found.{kind_found}
use Rattle.evaluator.proofs.Walks.{Then}
use Rattle.evaluator.specs.declared.course.Course.{Course}
use Rattle.evaluator.specs.declared.course.Course.TheVariants.{Forwards, Backwards, Freely}
use Rattle.evaluator.specs.declared.entry.PathEntry.TheVariants as paths
use Rattle.evaluator.specs.declared.entry.FilterEntry.TheVariants as filters
use Rattle.evaluator.specs.declared.evaluation.Evaluation.{Evaluation}
use Rattle.evaluator.specs.Course.{facing, first_of}
use Rattle.evaluator.specs.Entry.{Part, Parts, ForPath, ForFilter}
use Rattle.evaluator.specs.Evaluation.{Asks}
use Rattle.evaluator.specs.Evaluator.{Within}
use Rattle.evaluator.proofs.Images.{Stays}
use Rattle.evaluator.proofs.Walks.{walk_stays, then_parts}

-- the entry that a struct holds
abbrev entry_of : Entry → table.Entry
entry_of read = record { kind = read.kind; label = read.label; left = read.left; right = read.right }

-- an operand of an entry is an earlier one
part : {tab : Bytes} {s o : Sort} {e x : ℕ} → Within tab s e → OperandField (entries tab) e (of o) x → Part tab e o x
unfolding OperandField
part w (l, h) = record { earlier = l; entry = record { within = omega (arith, w.within); sort = h } }

-- The entry that a function has read, of a table in order.
pub record Read (tab : Bytes) (s : Sort) (e : ℕ) (read : Entry) : Type 0 where
  pub order : EntriesRight tab
  pub entry : Within tab s e
  pub fields : Fields (entry_at (entries tab) e) read

module _ {tab : Bytes} {s : Sort} {e : ℕ} {read : Entry} (k : Read tab s e read) where
  -- it is the table's
  same_entry : entry_at (entries tab) e ≡ entry_of read
  same_entry = let f = k.fields in rw (f.kind, f.label, f.left, f.right)

  right : EntryRight (entries tab) e
  right = k.order e k.entry.within

  -- the list has its kind
  pub listed : (found : Option Kind) → Stands read.kind found → IsSome found
  listed found stands = kind_found found right k.fields.kind stands

  -- one operand, or two of one sort
  one : {o : Sort} {P : Type 0} → OperandField (entries tab) e (of o) read.left × P → Part tab e o read.left × P
  one (l, same) = (part k.entry l, same)

  two : {o : Sort} {P : Type 0} → (OperandField (entries tab) e (of o) read.left × OperandField (entries tab) e (of o) read.right) × P
      → Parts tab e o read.left read.right × P
  two ((l, r), same) = (record { left = part k.entry l; right = part k.entry r }, same)

  -- what the entry stands for
  pub is_itself : read.kind ≡ 1 → path_at (entries tab) e ≡ syntax.self
  unfolding kinds find build the_path
  is_itself is = standing.path_stands (entries tab) e k.entry.within (entry_of read) same_entry 1 _ refl is

  pub is_child : read.kind ≡ 2 → path_at (entries tab) e ≡ syntax.child
  unfolding kinds find build the_path
  is_child is = standing.path_stands (entries tab) e k.entry.within (entry_of read) same_entry 2 _ refl is

  pub is_parent : read.kind ≡ 3 → path_at (entries tab) e ≡ syntax.parent
  unfolding kinds find build the_path
  is_parent is = standing.path_stands (entries tab) e k.entry.within (entry_of read) same_entry 3 _ refl is

  pub is_next : read.kind ≡ 4 → path_at (entries tab) e ≡ syntax.next
  unfolding kinds find build the_path
  is_next is = standing.path_stands (entries tab) e k.entry.within (entry_of read) same_entry 4 _ refl is

  pub is_previous : read.kind ≡ 5 → path_at (entries tab) e ≡ syntax.previous
  unfolding kinds find build the_path
  is_previous is = standing.path_stands (entries tab) e k.entry.within (entry_of read) same_entry 5 _ refl is

  pub is_stay : read.kind ≡ 6 → ForPath tab e (paths.Stay read.left)
  is_stay is = one (standing.stay_stands (entries tab) e k.entry.within (entry_of read) same_entry right is)

  pub is_then : read.kind ≡ 7 → ForPath tab e (paths.Then read.left read.right)
  is_then is = two (standing.then_stands (entries tab) e k.entry.within (entry_of read) same_entry right is)

  pub is_either : read.kind ≡ 8 → ForPath tab e (paths.Either read.left read.right)
  is_either is = two (standing.either_stands (entries tab) e k.entry.within (entry_of read) same_entry right is)

  pub is_star : read.kind ≡ 9 → ForPath tab e (paths.Star read.left)
  is_star is = one (standing.star_stands (entries tab) e k.entry.within (entry_of read) same_entry right is)

  pub is_labelled : read.kind ≡ 16 → filter_at (entries tab) e ≡ syntax.labelled read.label
  unfolding kinds find build the_filter
  is_labelled is = standing.filter_stands (entries tab) e k.entry.within (entry_of read) same_entry 16 _ refl is

  pub is_leads : read.kind ≡ 17 → ForFilter tab e (filters.Leads read.left)
  is_leads is = one (standing.leads_stands (entries tab) e k.entry.within (entry_of read) same_entry right is)

  pub is_always : read.kind ≡ 18 → filter_at (entries tab) e ≡ syntax.always
  unfolding kinds find build the_filter
  is_always is = standing.filter_stands (entries tab) e k.entry.within (entry_of read) same_entry 18 _ refl is

  pub is_never : read.kind ≡ 19 → filter_at (entries tab) e ≡ syntax.never
  unfolding kinds find build the_filter
  is_never is = standing.filter_stands (entries tab) e k.entry.within (entry_of read) same_entry 19 _ refl is

  pub is_not : read.kind ≡ 20 → ForFilter tab e (filters.Not read.left)
  is_not is = one (standing.not_stands (entries tab) e k.entry.within (entry_of read) same_entry right is)

  pub is_and : read.kind ≡ 21 → ForFilter tab e (filters.And read.left read.right)
  is_and is = two (standing.and_stands (entries tab) e k.entry.within (entry_of read) same_entry right is)

  pub is_or : read.kind ≡ 22 → ForFilter tab e (filters.Or read.left read.right)
  is_or is = two (standing.or_stands (entries tab) e k.entry.within (entry_of read) same_entry right is)

module _ {on : Evaluation} {s : Sort} {e : ℕ} {from : List ℕ} (k : Asks on s e from) where
  -- a path stays among the nodes
  pub path_stays : (p : Path) → Stays (length (nodes on.roll.now)) (reach (nodes on.roll.now) p)
  path_stays p = walk_stays _ (roll_in_order k.given.grounds.roll_right) p

  -- an operand is asked of nodes in its turn: four times its number, and three more for a star above it, is below four times e
  pub operand : {o : Sort} {x t : ℕ} {set : List ℕ} → 4 * e ≡ t → Part on.table.now e o x → Inside (length (nodes on.roll.now)) set
      → (4 * x + 3 < t) × Asks on o x set
  operand m f inside =
      (omega (arith, f.earlier), record { given = k.given; asked = record { entry = f.entry; nodes_only = inside } })

  pub operand_below : {o : Sort} {x t : ℕ} {set : List ℕ} → 4 * e ≡ t → Part on.table.now e o x → Inside (length (nodes on.roll.now)) set
      → (4 * x < t) × Asks on o x set
  operand_below m f inside = let (l, more) = operand m f inside in (omega arith, more)

-- the path of entry e is that of entry `first` and then that of entry `second`, on a course
pub record InTurn (tab : Bytes) (course : Course) (e first second : ℕ) : Type 0 where
  pub one : Part tab e path first
  pub other : Part tab e path second
  pub same : (t : Tree) (i j : ℕ)
      → reach t (facing course (path_at (entries tab) e)) i j
      ↔ Then (reach t (facing course (path_at (entries tab) first))) (reach t (facing course (path_at (entries tab) second))) i j

-- the two parts of a composition, in the order of the course
pub in_turn : {tab : Bytes} {e left right : ℕ} → ForPath tab e (paths.Then left right) → (course : Course) {first second : ℕ}
    → first ≡ first_of course left right → second ≡ first_of course right left → InTurn tab course e first second
in_turn {tab} {e} {left} {right} (parts, is) course one other =
    rw (one, other)
    (record {
      one = either _ _ course parts.left parts.right;
      other = either _ _ course parts.right parts.left;
      same = λ t i j. rw is (then_parts (path_at (entries tab)) course left right t i j);
    })
  where
    either : (x y : ℕ) (course : Course) → Part tab e path x → Part tab e path y → Part tab e path (first_of course x y)
    either _ _ Forwards x y = x
    either _ _ Backwards x y = y
    either _ _ Freely x y = x
