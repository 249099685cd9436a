-- With the index of the annotation and the answers of its filters, who is shown is who is visible. Assumes nothing.
use Prim.Native.Nat.{ℕ, zero, suc, ◌<◌}
use native.Mathlib.Omega.{arith}
use mathlib.Core.Path.{◌≡◌, refl, sym, subst}
use mathlib.Core.Logic.{◌↔◌, ⊎_elim}
use mathlib.Core.List.Memᴰ
use mathlib.Core.List.{List, [], ◌∷◌, map, Memᴰ}
use Rattle.std.specs.Prelude.{Option, Some, None, slice_index_or}
use lib.ListN.{length, get_or}
use Rattle.reply.specs.Bytes.{Bytes}
use Rattle.tree.specs.Tree.{Tree, label_at, Child}
use Rattle.tree.proofs.Order.{child_node}
use Rattle.roll.specs.Roll.{nodes, Roll}
use Rattle.roll.proofs.Deciding.{roll_in_order}
use Rattle.query.specs.Syntax.{Filter}
use Rattle.query.specs.Meaning.{holds}
use Rattle.query.specs.Table.{Entries, entries, filter_at}
use Rattle.view.specs.Annotation.{records, record_at, Rule, rules}
use Rattle.view.specs.Visible as visible
use Rattle.view.specs.Visible.{Ruled, Visible, shown, inherits}
use Rattle.view.specs.Promise.{Seen, Annotated}
use Rattle.sets.specs.Sets.{In, Holds}
use Rattle.visible.specs.Index.{HasPair, FirstNamed, Row, none, at, Indexed}
use Rattle.visible.specs.Answers.{AllAnswered}
use Rattle.visible.specs.Shown as told
use Rattle.visible.specs.Shown.{row_of, Shown, answered, inherited}
use Rattle.visible.proofs.Indexing.{none_some, some_one, first_itself, pair_one}

-- what is a member of a list that a function made stands somewhere in it
mapped_at : {A B : Type 0} (f : A → B) (d : A) (l : List A) {b : B} → Memᴰ b (map f l)
    → (r : ℕ) × (r < length l) × (b ≡ f (get_or l r d))
mapped_at f d [] m = absurd (Memᴰ.not-nil m)
mapped_at f d (a ∷ more) m =
    ⊎_elim
    (λ e. (0, omega arith, e))
    (λ k. let (r, h, e) = mapped_at f d more k in (suc r, omega arith, e))
    (Memᴰ.cases_cons m)

at_mapped : {A B : Type 0} (f : A → B) (d : A) (l : List A) (r : ℕ) → r < length l → Memᴰ (f (get_or l r d)) (map f l)
at_mapped f d [] r h = absurd (omega arith)
at_mapped f d (a ∷ more) zero h = Memᴰ.head refl
at_mapped f d (a ∷ more) (suc r) h = Memᴰ.tail (at_mapped f d more r (omega arith))

module _ (es : Entries) (annotation : Bytes) {p c : ℕ} where
  -- a pair is ruled by the filter of the record that has it
  has_ruled : {r : ℕ} → r < length (records annotation) → HasPair annotation p c r
      → Ruled (rules es annotation) p c (filter_at es (record_at (records annotation) r).filter)
  unfolding rules record_at
  has_ruled {r} l x =
      subst (λ (y : Rule). Memᴰ y (rules es annotation))
      (λ i. record { parent = x.parent i; child = x.child i; filter = filter_at es (record_at (records annotation) r).filter })
      (at_mapped _ _ (records annotation) r l)

  -- and by no other
  ruled_has : {f : Filter} → Ruled (rules es annotation) p c f
      → (r : ℕ) × (r < length (records annotation)) × HasPair annotation p c r × (f ≡ filter_at es (record_at (records annotation) r).filter)
  unfolding rules record_at
  ruled_has m =
      let (r, l, e) = mapped_at _ (record { parent = 0; child = 0; filter = 0; rest = 0 }) (records annotation) m in
      (r, l, record { parent = λ i. (sym e i).parent; child = λ i. (sym e i).child }, λ i. (e i).filter)

-- what the index of the annotation says of the pair of p and its child i
abbrev RowOf : Bytes → Tree → ℕ → ℕ → Option ℕ → Type 0
RowOf annotation t p i v = Row annotation (length (records annotation)) (label_at t p) (label_at t i) v

-- a filter of the annotation rules that pair
abbrev RuledBy : List Rule → Tree → ℕ → ℕ → Filter → Type 0
RuledBy given t p i f = Ruled given (label_at t p) (label_at t i) f

module _ {roll annotation filters : Bytes} {index : List (Option ℕ)} {answers : List (List ℕ)} (r : Roll roll) (a : Annotated annotation filters)
    (indexed : Indexed annotation index) (answer : AllAnswered roll annotation filters answers) where
  abbrev t : Tree
  t = nodes roll

  abbrev given : List Rule
  given = rules (entries filters) annotation

  -- the pair of a child is in the index
  pair_row : {p i : ℕ} → Child t p i → RowOf annotation t p i (row_of t index p i)
  pair_row {p} {i} c = indexed.row _ _ (r.node p (child_node t (roll_in_order r) c)).label (r.node i c.node).label

  -- where there is no row, no filter rules the pair
  unruled : {p c : ℕ} {v : Option ℕ} → v ≡ None → Row annotation (length (records annotation)) p c v → (f : Filter) → ¬ Ruled given p c f
  unruled e (none not_there) f m = let (s, l, x, same) = ruled_has (entries filters) annotation m in not_there s l x
  unruled e (at l x named) f m = none_some (sym e)

  -- any row leads to a record that answers for the pair's
  led : {p c s : ℕ} {v : Option ℕ} → v ≡ Some s → Row annotation (length (records annotation)) p c v
      → (q : ℕ) × (q < length (records annotation)) × HasPair annotation p c q × FirstNamed annotation q s
  led e (none not_there) = absurd (none_some e)
  led {s = s} e (at {r = q} {s = k} l x named) = let same : k ≡ s = some_one e in (q, l, x, rw same at named)

  -- the first record that names a filter answers for every record that names it
  answers_for : {q s p i : ℕ} → q < length (records annotation) → FirstNamed annotation q s → Child t p i
      → In (slice_index_or answers s []) i ↔ holds t (filter_at (entries filters) (record_at (records annotation) q).filter) i
  answers_for {q} {s} {p} {i} l named c =
      let node = c.node in
      let known = named.known in
      let told = (answer.answer s (omega arith) (first_itself named)).exact i in (
        λ m. rw named.same at (told.0 m).filter,
        λ h. told.1 (record { node = node; filter = rw named.same h }),
      )

  -- a node that is shown is visible
  to_visible : {i : ℕ} → Shown t index answers i → Visible t given i
  to_visible told.root = visible.root
  to_visible (answered c e m) =
      let (q, l, x, named) = led e (pair_row c) in
      shown c (has_ruled (entries filters) annotation l x) ((answers_for l named c).0 m)
  to_visible (inherited c e s) = inherits c (unruled e (pair_row c)) (to_visible s)

  -- a node whose pair has a record is answered for by that record
  ruled_shown : {p i : ℕ} {v : Option ℕ} {f : Filter} → Child t p i → row_of t index p i ≡ v → RowOf annotation t p i v
      → RuledBy given t p i f → holds t f i → Shown t index answers i
  ruled_shown c e (none not_there) m h = let (s, l, x, same) = ruled_has (entries filters) annotation m in absurd (not_there s l x)
  ruled_shown c e (at {r = q} k y named) m h =
      let (s, l, x, same) = ruled_has (entries filters) annotation m in
      let one : s ≡ q = pair_one a.records l k x y in
      answered c e ((answers_for k named c).1 (rw (← one, ← same) h))

  -- one whose pair has none is shown as its parent is
  unruled_shown : {p i : ℕ} {v : Option ℕ} → Child t p i → row_of t index p i ≡ v → RowOf annotation t p i v
      → ((f : Filter) → ¬ RuledBy given t p i f) → Shown t index answers p → Shown t index answers i
  unruled_shown c e (none not_there) free s = inherited c e s
  unruled_shown c e (at l x named) free s = absurd (free _ (has_ruled (entries filters) annotation l x))

  -- so a visible node is shown
  from_visible : {i : ℕ} → Visible t given i → Shown t index answers i
  from_visible visible.root = told.root
  from_visible (shown c m h) = ruled_shown c refl (pair_row c) m h
  from_visible (inherits c free v) = unruled_shown c refl (pair_row c) free (from_visible v)

  -- the set of the nodes shown is the set of the visible ones
  pub shown_visible : {set : List ℕ} → Holds (Shown t index answers) set → Holds (Seen roll annotation filters) set
  unfolding Seen
  shown_visible whole = record { exact = λ k. (λ m. to_visible ((whole.exact k).0 m), λ v. (whole.exact k).1 (from_visible v)) }
