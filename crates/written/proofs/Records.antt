-- The entries for the annotation's records: behind those of each record, the last two say whether one of the records so far is the node's,
-- and whether one of them shows it. Assumes nothing.
use Prim.Native.Nat.{ℕ, zero, suc, ◌+◌, ◌-◌, ◌*◌, ◌≤◌, ◌<◌}
use native.Mathlib.Omega.{arith}
use mathlib.Core.Path.{◌≡◌, refl, sym, ◌∙◌}
use mathlib.Core.List.{List, [], ◌∷◌, ◌++◌, map}
use lib.ListN.{length, get_or, length-append}
use Rattle.tree.specs.Tree.{Label}
use Rattle.query.specs.Syntax as syntax
use Rattle.query.specs.Syntax.{Filter, or}
use Rattle.query.specs.Kind.{kinds, find}
use Rattle.query.specs.Table.{Entries, LabelField, read_on, operand_height, height, Meant, a_path, a_filter, the_path, the_filter, path_in, filter_in, build, mean, filter_at}
use Rattle.view.specs.Annotation.{AnnotationRecord, RecordForm, Rule}
use Rattle.theorem.proofs.VisibleFilter.{some_of, pair_of, showing}
use Rattle.written.specs.Written.{entry, label_entry, moved, renumber, opening, record_entries}
use Rattle.written.proofs.Stands.{nothing, Stands, stands_kept, stands_as, Sound, sound_lower, Named, Ordered, Stood, Next, filter_stands}
use Rattle.written.proofs.Patterns.{InTurn, pattern_stood, pattern_sound, turn_test, row_test, named_test, label_test, same_sort, turn_tested, low_test, low_tested}

-- The nine entries with their operands numbered in a list: 0 is the parent step, 1 the record's filter, 2 and 3 what the entries before
-- say. 4 and 5 are the record's labels.
abbrev joining : Entries
joining =
    entry 6 5 0
    ∷ entry 7 0 6
    ∷ entry 17 7 0
    ∷ entry 21 4 8
    ∷ entry 21 9 1
    ∷ entry 22 9 2
    ∷ entry 22 10 3
    ∷ []

abbrev pattern : AnnotationRecord → Entries
pattern r = label_entry r.child ∷ label_entry r.parent ∷ joining

-- where these stand, for a record whose entries begin with number b
unfoldable places : (parent named b : ℕ) → ℕ → ℕ
places parent named b zero = parent
places parent named b (suc zero) = named
places parent named b (suc (suc zero)) = b - 2
places parent named b (suc (suc (suc zero))) = b - 1
places parent named b (suc (suc (suc (suc zero)))) = b
places parent named b (suc (suc (suc (suc (suc k))))) = b + suc k

-- these are the entries that are written
pattern_written : (parent b : ℕ) (r : AnnotationRecord)
    → record_entries parent b r ≡ map (renumber (places parent r.filter b)) (pattern r)
unfolding renumber moved places kinds find
pattern_written parent b r = refl

-- a rule for a record
abbrev pub rule_of : Entries → AnnotationRecord → Rule
rule_of filters r = record { parent = r.parent; child = r.child; filter = filter_at filters r.filter }

-- a label that is one
label_ordered : (s : List Meant) (l : ℕ) → Label l → Ordered s (label_entry l)
unfolding kinds find LabelField Named
label_ordered s l is = record { row = _; listed = refl; label = is; left = refl; right = refl }

-- what stands before the entries
abbrev things : Rule → Filter → Filter → List Meant
things rule own shown = a_path syntax.parent ∷ a_filter rule.filter ∷ a_filter own ∷ a_filter shown ∷ []

module _ (filters : Entries) (r : AnnotationRecord) (own shown : Filter) where
  abbrev rule : Rule
  rule = rule_of filters r

  in_turn : Label r.child → Label r.parent → InTurn (things rule own shown) (pattern r)
  unfolding InTurn turn_test row_test named_test label_test same_sort mean build kinds find
  in_turn child parent =
      let labels : List Meant = a_filter (syntax.labelled r.child) ∷ a_filter (syntax.labelled r.parent) ∷ [] in
      (label_ordered _ r.child child, (label_ordered _ r.parent parent, turn_tested (things rule own shown ++ labels) joining tt))

  -- what the entries stand for, and how high they are
  meant : List Meant
  meant = read_on mean (things rule own shown) (pattern r)

  many : length meant ≡ 13
  unfolding meant read_on
  many = refl

  meant_own : get_or meant 11 nothing ≡ a_filter (or (pair_of rule) own)
  unfolding meant read_on mean build kinds find path_in filter_in the_path the_filter pair_of
  meant_own = refl

  meant_shown : get_or meant 12 nothing ≡ a_filter (or (showing rule) shown)
  unfolding meant read_on mean build kinds find path_in filter_in the_path the_filter pair_of showing
  meant_shown = refl

-- how high they are, where the four before them count as 1, 0, 6 and 6
heights : AnnotationRecord → List ℕ
heights r = read_on height (1 ∷ 0 ∷ 6 ∷ 6 ∷ []) (pattern r)

low : (r : AnnotationRecord) (k : ℕ) → get_or (heights r) k 0 ≤ 7
unfolding heights low_test read_on height operand_height kinds find
low r = low_tested 7 (heights r) tt

-- EntryBehind the filter table, whose entries are at most h high, and the opening: n records are written, and the last two entries are about
-- them.
pub record Stage (filters : Entries) (h n : ℕ) (rules : List Rule) (table : Entries) : Type 0 where
  pub size : length table ≡ length filters + 3 + 9 * n
  pub front : {i k : ℕ} {x : Meant} → Stands filters i x k → Stands table i x k
  pub parent : Stands table (length filters) (a_path syntax.parent) 1
  pub owns : Stands table (length filters + 1 + 9 * n) (a_filter (some_of pair_of rules)) (n + h + 6)
  pub shows : Stands table (length filters + 2 + 9 * n) (a_filter (some_of showing rules)) (n + h + 6)
  pub sound : (most : ℕ) → n + h + 6 ≤ most → Sound table most

-- where the next entries stand
places_next : (parent named b k j : ℕ) → k ≡ 4 + j → places parent named b k ≡ b + j
unfolding places
places_next parent named b zero j l = absurd (omega arith)
places_next parent named b (suc zero) j l = absurd (omega arith)
places_next parent named b (suc (suc zero)) j l = absurd (omega arith)
places_next parent named b (suc (suc (suc zero))) j l = absurd (omega arith)
places_next parent named b (suc (suc (suc (suc zero)))) j l = omega arith
places_next parent named b (suc (suc (suc (suc (suc k))))) j l = omega arith

-- the parent step, the record's filter, and what the two last entries say
four_stood : {filters : Entries} {h n : ℕ} {rules : List Rule} {table : Entries} (r : AnnotationRecord) → Stage filters h n rules table
    → Stands table r.filter (a_filter (filter_at filters r.filter)) h
    → let to : ℕ → ℕ = places (length filters) r.filter (length filters + 3 + 9 * n) in
    Stood (n + h) to (things (rule_of filters r) (some_of pair_of rules) (some_of showing rules)) (1 ∷ 0 ∷ 6 ∷ 6 ∷ []) table
unfolding places
four_stood {filters} {h} {n} {rules} {table} r stage named = record { size = refl; each = at }
  where
    at : (k : ℕ) → k < 4
        → Stands table (places (length filters) r.filter (length filters + 3 + 9 * n) k)
        (get_or (things (rule_of filters r) (some_of pair_of rules) (some_of showing rules)) k nothing) (n + h + get_or (1 ∷ 0 ∷ 6 ∷ 6 ∷ []) k 0)
    at zero l = stands_as refl (omega arith) stage.parent
    at (suc zero) l = stands_as refl (omega arith) named
    at (suc (suc zero)) l = stands_as (omega arith) (omega arith) stage.owns
    at (suc (suc (suc zero))) l = stands_as (omega arith) (omega arith) stage.shows
    at (suc (suc (suc (suc k)))) l = absurd (omega arith)

module _ (filters : Entries) (h : ℕ) (sound : Sound filters h) where
  -- what the opening means
  abbrev opened : List Meant
  opened = a_path syntax.parent ∷ a_filter syntax.never ∷ a_filter syntax.never ∷ []

  -- at first no record is written
  pub stage_begins : Stage filters h 0 [] (filters ++ opening)
  unfolding some_of renumber moved read_on mean build height operand_height kinds find low_test turn_test row_test named_test label_test
  stage_begins =
      let first : ℕ = length filters in
      let next : Next (λ x. x + first) [] filters = record { place = λ k j l. omega arith } in
      let none : Stood 0 (λ x. x + first) [] [] filters = record { size = refl; each = λ k l. absurd (omega arith) } in
      let turn : InTurn [] opening = turn_tested [] opening tt in
      let all : Stood 0 (λ x. x + first) opened (1 ∷ 1 ∷ 1 ∷ []) (filters ++ opening) = pattern_stood opening turn next none in
      let grown = length-append filters opening in
      record {
        size = omega arith;
        front = λ s. stands_kept opening s;
        parent = stands_as (omega arith) (omega arith) (all.each 0 (omega arith));
        owns = stands_as (omega arith) (omega arith) (all.each 1 (omega arith));
        shows = stands_as (omega arith) (omega arith) (all.each 2 (omega arith));
        sound =
            λ most l. pattern_sound opening turn next none (λ k. omega (arith, low_tested 1 (1 ∷ 1 ∷ 1 ∷ []) tt k))
            (sound_lower (omega arith) sound);
      }

  -- then one more
  pub stage_more : {n : ℕ} {rules : List Rule} {table : Entries} (r : AnnotationRecord) → RecordForm filters r
      → Stage filters h n rules table
      → Stage filters h (suc n) (rule_of filters r ∷ rules) (table ++ record_entries (length filters) (length filters + 3 + 9 * n) r)
  unfolding some_of heights meant
  stage_more {n} {rules} {table} r form stage =
      let first : ℕ = length filters in
      let b : ℕ = first + 3 + 9 * n in
      let own : Filter = some_of pair_of rules in
      let shown : Filter = some_of showing rules in
      let to : ℕ → ℕ = places first r.filter b in
      let s : List Meant = things (rule_of filters r) own shown in
      let filter_here : Stands table r.filter (a_filter (filter_at filters r.filter)) h =
      stage.front (filter_stands form.named form.filter (sound.low r.filter form.named)) in
      let before : Stood (n + h) to s (1 ∷ 0 ∷ 6 ∷ 6 ∷ []) table = four_stood r stage filter_here in
      let next : Next to s table = record { place = λ k j l. places_next first r.filter b k j l ∙ omega (arith, stage.size) } in
      let turn : InTurn s (pattern r) = in_turn filters r own shown form.child form.parent in
      let entries : Entries = record_entries first b r in
      let same : map (renumber to) (pattern r) ≡ entries = sym (pattern_written first b r) in
      let all : Stood (n + h) to (meant filters r own shown) (heights r) (table ++ entries) =
      rw same at (pattern_stood (pattern r) turn next before) in
      let count = many filters r own shown in
      let grown = length-append table entries in
      let size = stage.size in
      record {
        size = omega arith;
        front = λ x. stands_kept entries (stage.front x);
        parent = stands_kept entries stage.parent;
        owns =
            stands_as (places_next first r.filter b 11 7 refl ∙ omega arith) (omega (arith, low r 11))
            (rw (meant_own filters r own shown) at (all.each 11 (omega arith)));
        shows =
            stands_as (places_next first r.filter b 12 8 refl ∙ omega arith) (omega (arith, low r 12))
            (rw (meant_shown filters r own shown) at (all.each 12 (omega arith)));
        sound =
            λ most l. rw same at
            (pattern_sound {h = most} (pattern r) turn next before (λ k. omega (arith, low r k)) (stage.sound most (omega arith)));
      }
