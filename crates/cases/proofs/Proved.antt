-- The worked cases hold: the list is computed, and what it says follows by the laws that the computed functions agree with the definitions
-- and that the calls' promises leave one way. Assumes nothing.
use Prim.Native.Nat.{ℕ, zero, suc, ◌-◌}
use native.Mathlib.Omega.{arith}
use mathlib.Core.Path.{◌≡◌, sym, subst, subst₂}
use mathlib.Core.Logic.Iff
use mathlib.Core.Logic.{◌↔◌, ⊎_elim}
use mathlib.Core.Bool.{Bool, true, false, cond, ◌&&◌}
use mathlib.Core.List.Memᴰ
use mathlib.Core.List.{List, [], ◌∷◌, map, Memᴰ}
use lib.Dec.{T, eqb, leb, eqb→eq, leb→le}
use lib.ListN.{length, get_or}
use lib.Count as count
use mir.Facts.{and_yes}
use Rattle.reply.specs.Reply.{Said}
use Rattle.reply.specs.Bytes.{Bytes}
use Rattle.tree.specs.Tree.{Node, Tree}
use Rattle.tree.proofs.Tests.{all, all_at, every_below, every_below_lem}
use Rattle.roll.specs.Roll.{nodes}
use Rattle.query.specs.Syntax.{Path}
use Rattle.query.specs.Table.{entries, height, height_at, operand_height}
use Rattle.query.proofs.Answers.{members, members_right, answer, answer_right}
use Rattle.text.specs.Written.{path_entries, table_of}
use Rattle.text.specs.Promise.{TextLength, StarBehindStar, behind, FirstMistake, Fits, TextFault, mistaken, TextOf}
use Rattle.derivation.proofs.Rules.{Result, got, stopped, broken, deep, PathReads}
use Rattle.derivation.proofs.Deciding as reading
use Rattle.derivation.proofs.Deciding.{Reading, no_steps, read_text}
use Rattle.derivation.proofs.Judged.{Judged, read, not_whole, judged}
use Rattle.derivation.proofs.Mistakes.{PlainBelow, star_within, breaks_first, deep_first, star_first, whole_clear, whole_faultless}
use Rattle.answer.specs.Bitmap.{}
use Rattle.sets.specs.Bits.{ones}
use Rattle.view.specs.Annotation.{records}
use Rattle.view.specs.Promise.{Seen}
use Rattle.cases.specs.Worked.{roll, annotation, filters, view}
use Rattle.cases.specs.Cases.{Pair, Case, annotated, visible, the_view, curator, on_roll, refused, Answers, Cuts, Holds, cases}
use Rattle.cases.proofs.Tests.{same_list, same_list_lem, same_numbers, same_numbers_lem}
use Rattle.cases.proofs.Listing.{is_listed, is_listed_lem}
use Rattle.cases.proofs.Outcomes.{text_refused, bitmap_of, Asked, answers}
use Rattle.cases.proofs.Worked.{worked_annotated, flags, flags_right, computed, view_cut, of_curator, of_roll}

-- whether two nodes are the same
same_node : Node → Node → Bool
same_node n m = eqb n.label m.label && eqb n.parent m.parent

same_node_lem : (n m : Node) → T (same_node n m) → n ≡ m
unfolding same_node
same_node_lem n m h =
    let (l, p) = and_yes (eqb n.label m.label) (eqb n.parent m.parent) h in
    λ i. record { label = eqb→eq n.label m.label l i; parent = eqb→eq n.parent m.parent p i }

-- the fault of a text at the place where so many bytes are unread
is_fault : Bytes → ℕ → ℕ → ℕ → ℕ → Bool
is_fault text n i number unread = eqb number n && eqb (length text - unread) i

is_fault_lem : (text : Bytes) (n i number unread : ℕ) → T (is_fault text n i number unread) → TextFault text number (length text - unread)
    → TextFault text n i
unfolding is_fault
is_fault_lem text n i number unread h f =
    let (a, b) = and_yes (eqb number n) (eqb (length text - unread) i) h in
    subst₂ (TextFault text) (eqb→eq number n a) (eqb→eq (length text - unread) i b) f

-- a test of what a text is read as
on_result : {A : Type 0} {Reads : Result A → Type 0} → (Result A → Bool) → Reading Reads → Bool
on_result test no_steps = false
on_result test (reading.read r d) = test r

on_result_lem : {A : Type 0} {Reads : Result A → Type 0} (test : Result A → Bool) (x : Reading Reads) → T (on_result test x)
    → (r : Result A) × Reads r × T (test r)
unfolding on_result
on_result_lem test no_steps h = absurd h
on_result_lem test (reading.read r d) h = (r, d, h)

-- a text's length is in order
length_tests : Bytes → List Bool
length_tests text = leb 1 (length text) ∷ leb (length text) 1024 ∷ []

text_length : (text : Bytes) → T (all (length_tests text)) → TextLength text
unfolding length_tests
text_length text h =
    let passed = all_at (length_tests text) h in
    record { some = leb→le 1 (length text) (passed 0); most = leb→le (length text) 1024 (passed 1) }

-- whether a byte of the text and the next one are both stars
stars : Bytes → ℕ → Bool
stars text k = eqb (get_or text k 0) 42 && eqb (get_or text (suc k) 0) 42

-- whether this is so of none of so many bytes
plain : Bytes → ℕ → Bool
plain text i = every_below i (λ k. cond (stars text k) false true)

plain_below : (text : Bytes) (i : ℕ) → T (plain text i) → PlainBelow text (suc i)
unfolding plain stars
plain_below text i h k l (behind {i = j} e f) = rw (e, f) at (every_below_lem i (λ k. cond (stars text k) false true) h j (omega arith))

-- the text's length and the path's table are within the limits, and the path's answer is listed, each node once
answer_tests : Tree → Bytes → List ℕ → Path → List Bool
answer_tests t text ks p =
    all (length_tests text)
    ∷ leb (length (table_of p)) 256
    ∷ every_below (length (table_of p)) (λ i. leb (height_at (table_of p) i) 32)
    ∷ same_numbers (answer t p) ks
    ∷ eqb (length ks) (ones (bitmap_of ks))
    ∷ plain text (length text)
    ∷ []

-- whether a text that reads so has this answer
answers_by : Tree → Bytes → List ℕ → Result Path → Bool
unfolding answer_tests length_tests plain stars answer members table_of path_entries height_at height operand_height same_list bitmap_of ones count.ones
answers_by t text ks (got p []) = all (answer_tests t text ks p)
answers_by t text ks (got p (c ∷ more)) = false
answers_by t text ks (stopped s more) = false

-- whether 19 and this place are the first star right behind a star
is_slip : Bytes → ℕ → ℕ → Bool
is_slip text n zero = false
is_slip text n (suc j) = eqb 19 n && (stars text j && plain text j)

-- whether a text that reads so is refused with this number at this place; one that breaks off, if it has no two stars in a row
refused_by : Bytes → ℕ → ℕ → Result Path → Bool
refused_by text n i (got p []) = is_slip text n i
refused_by text n i (got p (c ∷ more)) = plain text (length text) && is_fault text n i 14 (suc (length more))
refused_by text n i (stopped broken more) = plain text (length text) && is_fault text n i 14 (length more)
refused_by text n i (stopped deep more) = plain text (length text) && is_fault text n i 15 (length more)

-- whether the worked annotation is of these pairs, has so many filter entries and names these
annotation_tests : List Pair → ℕ → List ℕ → List Bool
annotation_tests pairs n ks =
    is_listed pairs annotation filters
    ∷ eqb (length (entries filters)) n
    ∷ same_numbers (map (λ r. r.filter) (records annotation)) ks
    ∷ []

-- a case, computed
computes : Case → Bool
unfolding annotation_tests is_listed computed on_result read_text answers_by refused_by is_slip is_fault same_node
computes (annotated pairs n ks) = all (annotation_tests pairs n ks)
computes (visible shown) = same_numbers (members 0 flags) shown
computes (the_view v) = same_list same_node computed v
computes (curator text ks) = on_result (answers_by computed text ks) (read_text 32 text)
computes (on_roll text ks) = on_result (answers_by (nodes roll) text ks) (read_text 32 text)
computes (refused text n i) = all (length_tests text) && on_result (refused_by text n i) (read_text 32 text)

-- a text without two stars in a row that breaks off is refused so
broken_off : (text : Bytes) (n i number unread : ℕ) → TextLength text
    → T (plain text (length text) && is_fault text n i number unread)
    → (PlainBelow text (length text - unread) → FirstMistake text number (length text - unread)) → TextFault text n i
broken_off text n i number unread right h first =
    let (none, at) = and_yes (plain text (length text)) (is_fault text n i number unread) h in
    is_fault_lem text n i number unread at (mistaken right (first (λ k l. plain_below text (length text) none k (omega arith))))

-- a text that is read whole is one of its path, if its table fits
whole_text : {text : Bytes} {p : Path} → TextLength text → T (plain text (length text)) → Judged text (got p []) → Fits (table_of p)
    → TextOf p text
whole_text {text} right h (read x shallow) fits =
    record {
      length = right;
      path = x;
      faultless = whole_faultless x shallow (λ k l. plain_below text (length text) h k (omega arith));
      fits = fits;
    }

-- the answer on a tree is what is listed
listed : {On : Tree → Type 0} {Call : Bytes → Bytes → Said → Bytes → Type 0} {t : Tree} → Asked On Call t
    → (text : Bytes) (ks : List ℕ) (r : Result Path) → PathReads 32 0 text r → T (answers_by t text ks r) → Answers On Call text ks
unfolding answers_by answer_tests
listed {t = t} asked text ks (got p []) d h =
    let passed = all_at (answer_tests t text ks p) h in
    let length_right = text_length text (passed 0) in
    let low = every_below_lem (length (table_of p)) (λ i. leb (height_at (table_of p) i) 32) (passed 2) in
    let fits : Fits (table_of p) =
    record { few = leb→le (length (table_of p)) 256 (passed 1); low = λ i l. leb→le (height_at (table_of p) i) 32 (low i l) } in
    let same : answer t p ≡ ks = same_numbers_lem (answer t p) ks (passed 3) in
    answers ks asked (whole_text length_right (passed 5) (judged d) fits)
    (λ k. rw (← same) (Iff.symm (answer_right t asked.order p asked.root k)))
    (eqb→eq (length ks) (ones (bitmap_of ks)) (passed 4))
listed asked text ks (got p (c ∷ more)) d h = absurd h
listed asked text ks (stopped s more) d h = absurd h

-- a text of a path with two stars in a row is refused so
slip_refused : (text : Bytes) (n i : ℕ) {p : Path} → TextLength text → Judged text (got p []) → T (is_slip text n i) → TextFault text n i
unfolding is_slip stars
slip_refused text n zero right x h = absurd h
slip_refused text n (suc j) right (read x shallow) h =
    let (number, at) = and_yes (eqb 19 n) (stars text j && plain text j) h in
    let (both, none) = and_yes (stars text j) (plain text j) at in
    let (e, f) = and_yes (eqb (get_or text j 0) 42) (eqb (get_or text (suc j) 0) 42) both in
    let slip : StarBehindStar text (suc j) = behind (eqb→eq (get_or text j 0) 42 e) (eqb→eq (get_or text (suc j) 0) 42 f) in
    let first = star_first (whole_clear x shallow (length text)) (star_within slip) slip (plain_below text j none) in
    mistaken right (subst (λ m. FirstMistake text m (suc j)) (eqb→eq 19 n number) first)

-- a text that reads so is refused so
refusal : (text : Bytes) (n i : ℕ) {r : Result Path} → TextLength text → Judged text r → T (refused_by text n i r) → TextFault text n i
unfolding refused_by
refusal text n i right (read x s) h = slip_refused text n i right (read x s) h
refusal text n i right (not_whole f) h = broken_off text n i _ _ right h (λ k. breaks_first f k)
refusal text n i right (Judged.broken f) h = broken_off text n i _ _ right h (λ k. breaks_first f k)
refusal text n i right (Judged.deep f) h = broken_off text n i _ _ right h (λ k. deep_first f k)

-- what is computed of a case is what it says
computes_right : (c : Case) → T (computes c) → Holds c
unfolding computes Holds annotation_tests
computes_right (annotated pairs n ks) h =
    let passed = all_at (annotation_tests pairs n ks) h in
    record {
      listed = is_listed_lem pairs annotation filters (passed 0);
      size = eqb→eq (length (entries filters)) n (passed 1);
      named = same_numbers_lem (map (λ r. r.filter) (records annotation)) ks (passed 2);
      accepted = worked_annotated;
    }
computes_right (visible shown) h =
    λ i l.
    subst (λ (xs : List ℕ). Seen roll annotation filters i ↔ Memᴰ i xs) (same_numbers_lem (members 0 flags) shown h)
    (Iff.symm (Iff.trans (members_right flags i) (flags_right i l)))
computes_right (the_view v) h = subst Cuts (same_list_lem same_node same_node_lem computed v h) view_cut
computes_right (curator text ks) h =
    let (r, d, k) = on_result_lem (answers_by computed text ks) (read_text 32 text) h in listed of_curator text ks r d k
computes_right (on_roll text ks) h =
    let (r, d, k) = on_result_lem (answers_by (nodes roll) text ks) (read_text 32 text) h in listed of_roll text ks r d k
computes_right (refused text n i) h =
    let (size, reads) = and_yes (all (length_tests text)) (on_result (refused_by text n i) (read_text 32 text)) h in
    let (r, d, k) = on_result_lem (refused_by text n i) (read_text 32 text) reads in
    let fault = refusal text n i (text_length text size) (judged d) k in
    record { fault = fault; read = text_refused fault }

-- every case computes
all_compute : T (all (map computes cases))
unfolding computes cases view all every_below
all_compute = tt

-- a case of a list whose cases all compute computes itself
one_of_all : (cs : List Case) → T (all (map computes cs)) → (c : Case) → Memᴰ c cs → T (computes c)
unfolding all
one_of_all [] h c m = absurd (Memᴰ.not-nil m)
one_of_all (d ∷ cs) h c m =
    let (this, rest) = and_yes (computes d) (all (map computes cs)) h in
    ⊎_elim (λ e. subst (λ (x : Case). T (computes x)) (sym e) this) (λ n. one_of_all cs rest c n) (Memᴰ.cases_cons m)

-- Every case of the list holds of the definitions, and of the calls' promises.
pub proved : (c : Case) → Memᴰ c cases → Holds c
proved c m = computes_right c (one_of_all cases all_compute c m)
