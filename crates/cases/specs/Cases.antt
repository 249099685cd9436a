-- "Cases marked P are the proved ones": the list of them, with the case that Q-2 has changed, and what each of them says of the definitions
-- and of the calls' promises.
use Rattle.std.specs.Prelude.{ℕ, ◌+◌, ◌-◌, ◌≤◌, ◌<◌, ◌≡◌, ◌↔◌, length}
use Prim.Native.Char.{code}
use Prim.Native.String.{String, [] as nil, ◌∷◌ as ◌::◌}
use mathlib.Core.List.{List, [], ◌∷◌, ◌++◌, map, Memᴰ}
use Rattle.reply.specs.Reply.{Said, count}
use Rattle.reply.specs.Bytes.{Bytes, two_bytes, Written}
use Rattle.tree.specs.Tree.{Tree}
use Rattle.roll.specs.Roll.{nodes, node_bytes}
use Rattle.query.specs.Syntax.{Path, Filter}
use Rattle.query.specs.Table.{entries, entry_bytes}
use Rattle.query.specs.Meaning.{reach}
use Rattle.text.specs.Grammar.{FilterText}
use Rattle.text.specs.Written.{filter_entries, table_of}
use Rattle.text.specs.Promise.{TextOf, TextFault, TextRead}
use Rattle.answer.specs.Bitmap.{SetGiven}
use Rattle.answer.specs.Promise.{Answered}
use Rattle.view.specs.Annotation.{records}
use Rattle.view.specs.View.{View}
use Rattle.view.specs.Promise.{Seen, Annotated, ViewCut}
use Rattle.curator.specs.Promise.{CuratorAnswered}
use Rattle.cases.specs.Worked.{roll, annotation, filters, view}

-- A text as bytes.
unfoldable pub ascii : String → Bytes
ascii nil = []
ascii (c :: more) = code c ∷ ascii more

-- A pair of labels and the text of its filter.
pub record Pair : Type 0 where
  pub parent : ℕ
  pub child : ℕ
  pub filter : Bytes

-- What the worked annotation says, with the number of filter entries and those named; who is visible on the worked roll; its view;
-- a query text and its answer, the curator's in view positions or the roll's in record numbers; a query text and its refusal.
pub data Case : Type 0 where
  annotated : List Pair → (size : ℕ) → (named : List ℕ) → Case
  visible : List ℕ → Case
  the_view : Tree → Case
  curator : Bytes → List ℕ → Case
  on_roll : Bytes → List ℕ → Case
  refused : Bytes → (number place : ℕ) → Case

-- A call that is lent `room` bytes or more comes out so, and in no other way: the reply fits its promise, and whatever fits is this
-- reply, with the lent bytes left so.
pub record ComesOut (room : ℕ) (Call : Bytes → Said → Bytes → Type 0) (said : Said) (Left : Bytes → Bytes → Type 0) : Type 0 where
  pub some : (before : Bytes) → room ≤ length before → (after : Bytes) × Call before said after
  pub only : (before : Bytes) {s : Said} {after : Bytes} → room ≤ length before → Call before s after → (s ≡ said) × Left before after

-- The bytes are written, and those behind them are as they were.
abbrev pub InFront : Bytes → Bytes → Bytes → Type 0
InFront bytes before after = Written before bytes after

-- The bitmap of the nodes listed is written, and their number is the number of its ones.
abbrev pub Drawn : List ℕ → Bytes → Bytes → Type 0
Drawn answer before after = SetGiven (λ k. Memᴰ k answer) before (length answer) after

-- "The filter table holds these in this order, as the reader writes filters": the bytes of an annotation and its filter table for some
-- pairs, when n entries stand before. A pair's record names the last entry of its filter.
pub data Listed : ℕ → List Pair → Bytes → Bytes → Type 0 where
  none : {n : ℕ} → Listed n [] [] []
  one : {n m : ℕ} {x : Pair} {f : Filter} {more : List Pair} {rs es : Bytes}
      → FilterText x.filter f → m ≡ n + length (filter_entries n f) → Listed m more rs es
      → Listed n (x ∷ more) (x.parent ∷ x.child ∷ two_bytes (m - 1) ++ 0 ∷ 0 ∷ rs) (entry_bytes (filter_entries n f) ++ es)

-- The annotation and its filter table are those of the pairs, and are accepted.
pub record AnnotatedBy (pairs : List Pair) (many : ℕ) (numbers : List ℕ) : Type 0 where
  pub listed : Listed 0 pairs annotation filters
  pub size : length (entries filters) ≡ many
  pub named : map (λ r. r.filter) (records annotation) ≡ numbers
  pub accepted : Annotated annotation filters

-- The text is one of a path that reaches from the root exactly the nodes listed. Call 2 gives its table, and on that table the call gives
-- the number of the nodes listed and their bitmap.
pub record Answers (On : Tree → Type 0) (Call : Bytes → Bytes → Said → Bytes → Type 0) (text : Bytes) (answer : List ℕ) : Type 0 where
  pub path : Path
  pub text_of : TextOf path text
  pub reaches : (t : Tree) → On t → (k : ℕ) → reach t path 0 k ↔ Memᴰ k answer
  pub read : ComesOut 1536 (TextRead text) (count (length (table_of path))) (InFront (entry_bytes (table_of path)))
  pub given : ComesOut 512 (Call (entry_bytes (table_of path))) (count (length answer)) (Drawn answer)

-- The text has the fault listed, and call 2 says so and leaves its room as it was.
pub record Refuses (text : Bytes) (number place : ℕ) : Type 0 where
  pub fault : TextFault text number place
  pub read : ComesOut 1536 (TextRead text) (Said.refused number place) (λ before after. after ≡ before)

-- The tree is the view of the worked roll.
abbrev pub IsView : Tree → Type 0
IsView = View (nodes roll) (Seen roll annotation filters)

-- It is, and call 4 gives it.
pub record Cuts (v : Tree) : Type 0 where
  pub is : IsView v
  pub given : ComesOut (length roll) (ViewCut roll annotation filters) (count (length v)) (InFront (node_bytes v))

-- What a case says. The curator's answer is the same on whatever is the view.
unfoldable pub Holds : Case → Type 0
Holds (annotated pairs size named) = AnnotatedBy pairs size named
Holds (visible seen) = (i : ℕ) → i < length (nodes roll) → Seen roll annotation filters i ↔ Memᴰ i seen
Holds (the_view v) = Cuts v
Holds (curator text answer) = Answers IsView (CuratorAnswered roll annotation filters) text answer
Holds (on_roll text answer) = Answers (λ t. t ≡ nodes roll) (Answered roll) text answer
Holds (refused text number place) = Refuses text number place

-- A pair of labels and the characters of its filter.
abbrev pair : ℕ → ℕ → String → Pair
pair parent child filter = record { parent = parent; child = child; filter = ascii filter }

unfoldable pub cases : List Case
unfolding ascii
cases =
    annotated (pair 1 2 "!v/[#6]" ∷ pair 2 4 "f" ∷ pair 4 5 "v/[#8]" ∷ []) 12 (5 ∷ 6 ∷ 11 ∷ [])
    ∷ visible (0 ∷ 1 ∷ 4 ∷ 5 ∷ 6 ∷ 7 ∷ 11 ∷ 12 ∷ [])
    ∷ the_view view
    ∷ curator (ascii ".") (0 ∷ [])
    ∷ curator (ascii "^") []
    ∷ curator (ascii "v") (1 ∷ 6 ∷ [])
    ∷ on_roll (ascii "v") (1 ∷ 8 ∷ [])
    ∷ curator (ascii "v/v") (2 ∷ 4 ∷ 7 ∷ [])
    ∷ curator (ascii "v*/[#5]") (2 ∷ 5 ∷ 6 ∷ [])
    ∷ on_roll (ascii "v*/[#5]") (3 ∷ 4 ∷ 7 ∷ 11 ∷ [])
    ∷ curator (ascii "v/>") (6 ∷ [])
    ∷ curator (ascii "v/v/>") (4 ∷ [])
    ∷ curator (ascii "v/[!v/[#4]]") (1 ∷ 6 ∷ [])
    ∷ on_roll (ascii "v/[!v/[#4]]") []
    ∷ refused (ascii "v/") 14 2
    ∷ refused (ascii "[#65]") 14 3
    ∷ refused (ascii "v**") 19 2
    ∷ []
