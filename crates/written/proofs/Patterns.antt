-- Entries whose operands are numbered in a list of things: written behind a table in which these things stand, each stands there for what
-- it means in the list. Whether the operands of such entries are in order is one computed test. Assumes nothing.
use Prim.Native.Nat.{ℕ, zero, suc, ◌+◌, ◌≤◌}
use native.Mathlib.Omega.{arith}
use mathlib.Core.Path.{◌≡◌, refl, ◌∙◌}
use mathlib.Core.Bool.{Bool, true, false, ◌&&◌}
use mathlib.Core.List.{List, [], ◌∷◌, ◌++◌, map, append_assoc, append-nil}
use mathlib.Core.Option.{Option, none, some}
use lib.Dec.{T, leb, leb→le, ltb, ltb→lt, eqb, eqb→eq}
use lib.ListN.{length, get_or, length-append}
use lib.Seq.{get_or_at}
use mir.Facts.{and_yes}
use Rattle.query.specs.Kind.{Sort, path, filter, Operand, unused, of, Row, row_of}
use Rattle.query.specs.Table.{Entry, Entries, LabelField, read_on, height, Meant, mean}
use Rattle.query.proofs.Tables.{read_keeps}
use Rattle.written.specs.Written.{renumber}
use Rattle.written.proofs.Stands.{nothing, sort_for, Sound, Named, Ordered, Stood, Next, next_end, stood_end, entry_behind, sound_end}

-- each entry is in order in what was read before it
unfoldable pub InTurn : List Meant → Entries → Type 0
InTurn s [] = Unit {0}
InTurn s (e ∷ more) = Ordered s e × InTurn (s ++ mean s e ∷ []) more

module _ {c : ℕ} {to : ℕ → ℕ} where
  -- what the entries mean stands behind the table
  pub pattern_stood : {s : List Meant} {hs : List ℕ} {table : Entries} (es : Entries) → InTurn s es → Next to s table
      → Stood c to s hs table
      → Stood c to (read_on mean s es) (read_on height hs es) (table ++ map (renumber to) es)
  unfolding InTurn read_on
  pattern_stood {table = table} [] turn next stood = rw (append-nil table) stood
  pattern_stood {s = s} {hs = hs} {table = table} (e ∷ more) (here, turn) next stood =
      rw (append_assoc table (renumber to e ∷ []) (map (renumber to) more))
      at
      (pattern_stood {s = s ++ mean s e ∷ []} {hs = hs ++ height hs e ∷ []} {table = table ++ renumber to e ∷ []} more turn (next_end (mean s e) (renumber to e) next)
      (stood_end (mean s e) (renumber to e) next (height hs e) stood (entry_behind stood here)))

  -- and the table stays sound, where no entry is too high
  pub pattern_sound : {s : List Meant} {hs : List ℕ} {table : Entries} {h : ℕ} (es : Entries) → InTurn s es → Next to s table
      → Stood c to s hs table
      → ((k : ℕ) → c + get_or (read_on height hs es) k 0 ≤ h) → Sound table h → Sound (table ++ map (renumber to) es) h
  unfolding InTurn read_on
  pattern_sound {table = table} [] turn next stood low sound = rw (append-nil table) sound
  pattern_sound {s = s} {hs = hs} {table = table} {h = h} (e ∷ more) (here, turn) next stood low sound =
      let new : List ℕ = hs ++ height hs e ∷ [] in
      let last : get_or (read_on height new more) (length hs) 0 ≡ height hs e =
      read_keeps height new more (length hs) 0 (omega (arith, length-append hs (height hs e ∷ [])))
      ∙ get_or_at hs (height hs e) [] 0 (length hs) refl in
      let fits : c + height hs e ≤ h = omega (arith, low (length hs), last) in
      let stands = stood_end (mean s e) (renumber to e) next (height hs e) stood (entry_behind stood here) in
      rw (append_assoc table (renumber to e ∷ []) (map (renumber to) more))
      at (pattern_sound {s = s ++ mean s e ∷ []} {hs = hs ++ height hs e ∷ []} {table = table ++ renumber to e ∷ []} more turn (next_end (mean s e) (renumber to e) next) stands low (sound_end (entry_behind stood here) fits sound))

-- The test: no label is used, and each operand is of the sort that its kind wants.
unfoldable pub same_sort : Sort → Sort → Bool
same_sort path path = true
same_sort path filter = false
same_sort filter path = false
same_sort filter filter = true

unfoldable pub named_test : List Meant → Operand → ℕ → Bool
unfolding same_sort
named_test s unused x = eqb x 0
named_test s (of sort) x = ltb x (length s) && same_sort (sort_for (get_or s x nothing)) sort

unfoldable pub label_test : Bool → ℕ → Bool
label_test true l = false
label_test false l = eqb l 0

unfoldable pub row_test : List Meant → Entry → Option Row → Bool
unfolding named_test label_test
row_test s e none = false
row_test s e (some row) = label_test row.label e.label && (named_test s row.left e.left && named_test s row.right e.right)

unfoldable pub turn_test : List Meant → Entries → Bool
unfolding row_test
turn_test s [] = true
turn_test s (e ∷ more) = row_test s e (row_of e.kind) && turn_test (s ++ mean s e ∷ []) more

sort_same : (a b : Sort) → T (same_sort a b) → a ≡ b
unfolding same_sort
sort_same path path t = refl
sort_same path filter t = absurd t
sort_same filter path t = absurd t
sort_same filter filter t = refl

named_tested : (s : List Meant) (o : Operand) (x : ℕ) → T (named_test s o x) → Named s o x
unfolding named_test Named
named_tested s unused x t = eqb→eq x 0 t
named_tested s (of sort) x t =
    let (l, h) = and_yes (ltb x (length s)) (same_sort (sort_for (get_or s x nothing)) sort) t in
    (ltb→lt x (length s) l, sort_same (sort_for (get_or s x nothing)) sort h)

label_tested : (used : Bool) (l : ℕ) → T (label_test used l) → LabelField used l
unfolding label_test LabelField
label_tested true l t = absurd t
label_tested false l t = eqb→eq l 0 t

row_tested : (s : List Meant) (e : Entry) (row : Option Row) → row_of e.kind ≡ row → T (row_test s e row) → Ordered s e
unfolding row_test
row_tested s e none listed t = absurd t
row_tested s e (some row) listed t =
    let (label, operands) =
    and_yes (label_test row.label e.label) (named_test s row.left e.left && named_test s row.right e.right) t in
    let (left, right) = and_yes (named_test s row.left e.left) (named_test s row.right e.right) operands in
    record {
      row = row;
      listed = listed;
      label = label_tested row.label e.label label;
      left = named_tested s row.left e.left left;
      right = named_tested s row.right e.right right;
    }

-- entries that pass are in order
pub turn_tested : (s : List Meant) (es : Entries) → T (turn_test s es) → InTurn s es
unfolding InTurn turn_test
turn_tested s [] t = tt
turn_tested s (e ∷ more) t =
    let (here, rest) = and_yes (row_test s e (row_of e.kind)) (turn_test (s ++ mean s e ∷ []) more) t in
    (row_tested s e (row_of e.kind) refl here, turn_tested (s ++ mean s e ∷ []) more rest)

-- A test of heights that are numbers.
unfoldable pub low_test : ℕ → List ℕ → Bool
low_test h [] = true
low_test h (x ∷ more) = leb x h && low_test h more

pub low_tested : (h : ℕ) (l : List ℕ) → T (low_test h l) → (k : ℕ) → get_or l k 0 ≤ h
unfolding low_test
low_tested h [] t k = omega arith
low_tested h (x ∷ more) t zero = leb→le x h (and_yes (leb x h) (low_test h more) t).0
low_tested h (x ∷ more) t (suc k) = low_tested h more (and_yes (leb x h) (low_test h more) t).1 k
