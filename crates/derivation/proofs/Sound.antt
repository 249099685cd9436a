-- What the rules of reading get is what a text of the grammar stands for, and what they read before a stop begins such a text. Assumes
-- nothing.
use Prim.Native.Nat.{ℕ, ◌+◌}
use native.Mathlib.Omega.{arith}
use mathlib.Core.Path.{◌≡◌, refl, ap}
use mathlib.Core.List.{[], ◌∷◌, ◌++◌, append_assoc}
use Rattle.reply.specs.Bytes.{Bytes}
use Rattle.query.specs.Syntax.{Path, self, stay, Filter, always}
use Rattle.text.specs.Grammar as grammar
use Rattle.text.specs.Grammar.{LabelText, PathText, SequenceText, ItemText, AtomText, FilterText, ConjunctionText, TermText}
use Rattle.derivation.specs.declared.Chain.{Chain}
use Rattle.derivation.specs.declared.Chain.TheVariants as chain
use Rattle.derivation.specs.declared.Bracket.{Bracket}
use Rattle.derivation.specs.declared.Bracket.TheVariants as brackets
use Rattle.derivation.specs.Parts.{Joined, join, joining, inside, opening_byte, closing_byte}
use Rattle.derivation.proofs.Rules.{Stop, broken, deep, Result, got, stopped, LabelReads, one_digit, two_digits, no_digit}
use Rattle.derivation.proofs.Rules.{StarsRead, one_more, no_more}
use Rattle.derivation.proofs.Rules.{ChainReads, starts, start_stops, GoesOn, joined, joined_stops, ends}
use Rattle.derivation.proofs.Rules.{LinkReads, sequence, item, item_stops, conjunction, exclamation, exclamation_stops}
use Rattle.derivation.proofs.Rules.{letter_t, letter_f, hash, hash_stops, curly, a_path, a_path_stops}
use Rattle.derivation.proofs.Rules.{AtomReads, dot, letter_v, caret, greater, less, square, square_stops, round, no_atom}
use Rattle.derivation.proofs.Rules.{BracketReads, closed, stays_open, inside_stops, too_deep}

-- The bytes begin with a text of x, and `more` is behind it.
pub record Span {A : Type 0} (Text : Bytes → A → Type 0) (b : Bytes) (x : A) (more : Bytes) : Type 0 where
  pub front : Bytes
  pub splits : b ≡ front ++ more
  pub text : Text front x

-- What goes on as begun: anything where a byte stops the reading, the bracket itself where it is one too many.
pub data Ahead : Stop → Bytes → Bytes → Type 0 where
  anything : {more t : Bytes} → Ahead broken more t
  bracket : {c : ℕ} {more t : Bytes} → Ahead deep (c ∷ more) (c ∷ t)

-- What reading the bytes says of them: what is got has its text in front, and before a stop some text is begun.
pub data Heard {A : Type 0} (Text : Bytes → A → Type 0) (b : Bytes) : Result A → Type 0 where
  whole : {x : A} {more : Bytes} → Span Text b x more → Heard Text b (got x more)
  begun : {s : Stop} {x : A} {more : Bytes} (u t : Bytes) → b ≡ u ++ more → Text (u ++ t) x → Ahead s more t → Heard Text b (stopped s more)

-- what stands behind what is begun may stand there too
longer : {s : Stop} {more t : Bytes} (u : Bytes) → Ahead s more t → Ahead s more (t ++ u)
longer u anything = anything
longer u bracket = bracket

module _ {A : Type 0} {X : Bytes → A → Type 0} where
  -- the bytes read are a text of what is got
  exactly : (s : Bytes) {more : Bytes} {x : A} → X s x → Heard X (s ++ more) (got x more)
  exactly s w = whole (record { front = s; splits = refl; text = w })

  -- all texts of one kind are texts of another
  lift_all : {Y : Bytes → A → Type 0} {b : Bytes} {r : Result A} → ((s : Bytes) (x : A) → X s x → Y s x) → Heard X b r → Heard Y b r
  lift_all f (whole {x = x} v) = whole (record { front = v.front; splits = v.splits; text = f v.front x v.text })
  lift_all f (begun {x = x} u t e w a) = begun u t e (f (u ++ t) x w) a

  -- what is got has its text in front
  pub span : {b more : Bytes} {x : A} → Heard X b (got x more) → Span X b x more
  span (whole v) = v

  module _ {B : Type 0} {Y : Bytes → B → Type 0} where
    -- a text of one kind is one of another
    lift : {b more : Bytes} {x : A} {y : B} → ((s : Bytes) → X s x → Y s y) → Span X b x more → Span Y b y more
    lift f v = record { front = v.front; splits = v.splits; text = f v.front v.text }

    -- and so where reading stops
    lift_stop : {b more : Bytes} {s : Stop} → ((u : Bytes) (x : A) → X u x → (y : B) × Y u y) → Heard X b (stopped s more)
        → Heard Y b (stopped s more)
    lift_stop f (begun {x = x} u t e w a) = begun u t e (f (u ++ t) x w).1 a

    -- a byte in front of a text
    module _ {c : ℕ} where
      ahead : {b more : Bytes} {x : A} {y : B} → ((s : Bytes) → X s x → Y (c ∷ s) y) → Span X b x more → Span Y (c ∷ b) y more
      ahead f v = record { front = c ∷ v.front; splits = ap (λ (l : Bytes). c ∷ l) v.splits; text = f v.front v.text }

      -- and so where reading stops
      ahead_stop : {b more : Bytes} {s : Stop} → ((u : Bytes) (x : A) → X u x → (y : B) × Y (c ∷ u) y) → Heard X b (stopped s more)
          → Heard Y (c ∷ b) (stopped s more)
      ahead_stop f (begun {x = x} u t e w a) = begun (c ∷ u) t (ap (λ (l : Bytes). c ∷ l) e) (f (u ++ t) x w).1 a

-- The texts of a chain, and of its links.
abbrev ChainText : (c : Chain) → Bytes → Joined c → Type 0
ChainText chain.Path = PathText
ChainText chain.Sequence = SequenceText
ChainText chain.Filter = FilterText
ChainText chain.Conjunction = ConjunctionText

abbrev LinkText : (c : Chain) → Bytes → Joined c → Type 0
LinkText chain.Path = SequenceText
LinkText chain.Sequence = ItemText
LinkText chain.Filter = ConjunctionText
LinkText chain.Conjunction = TermText

-- a link is a chain
one_link : (c : Chain) (s : Bytes) (x : Joined c) → LinkText c s x → ChainText c s x
one_link chain.Path s x w = grammar.one_sequence w
one_link chain.Sequence s x w = grammar.one_item w
one_link chain.Filter s x w = grammar.one_conjunction w
one_link chain.Conjunction s x w = grammar.one_term w

-- and so are a chain and one more link, joined
links : (c : Chain) (s u : Bytes) (x y : Joined c) → ChainText c s x → LinkText c u y → ChainText c (s ++ joining c ∷ u) (join c x y)
links chain.Path s u x y v w = grammar.bar v w
links chain.Sequence s u x y v w = grammar.slash v w
links chain.Filter s u x y v w = grammar.plus v w
links chain.Conjunction s u x y v w = grammar.ampersand v w

-- there is a text of each
example : (c : Chain) → (s : Bytes) × (x : Joined c) × ChainText c s x
example chain.Path = (46 ∷ [], self, grammar.one_sequence (grammar.one_item (grammar.an_atom grammar.dot)))
example chain.Sequence = (46 ∷ [], self, grammar.one_item (grammar.an_atom grammar.dot))
example chain.Filter = (116 ∷ [], always, grammar.one_conjunction (grammar.one_term grammar.letter_t))
example chain.Conjunction = (116 ∷ [], always, grammar.one_term grammar.letter_t)

-- The text of a bracket is that of what stands in it, between two bytes.
data BracketText (k : Bracket) : Bytes → Joined (inside k) → Type 0 where
  between : (s : Bytes) {x : Joined (inside k)} → ChainText (inside k) s x → BracketText k (opening_byte k ∷ s ++ closing_byte k ∷ []) x

-- as an atom, or as a term
square_text : {s : Bytes} {f : Filter} → BracketText brackets.Square s f → AtomText s (stay f)
square_text (between s w) = grammar.square w

round_text : {s : Bytes} {p : Path} → BracketText brackets.Round s p → AtomText s p
round_text (between s w) = grammar.round w

curly_text : {s : Bytes} {f : Filter} → BracketText brackets.Curly s f → TermText s f
curly_text (between s w) = grammar.curly w

module _ (c : Chain) {j : ℕ} (e : j ≡ joining c) {b rest more : Bytes} {x : Joined c} (v : Span (ChainText c) b x (j ∷ rest)) where
  -- a chain, its byte, and one more link
  link_on : {y : Joined c} → Span (LinkText c) rest y more → Span (ChainText c) b (join c x y) more
  link_on {y = y} w =
      record {
        front = v.front ++ joining c ∷ w.front;
        splits = rw (v.splits, w.splits, e, append_assoc);
        text = links c v.front w.front x y v.text w.text;
      }

  -- and so where reading stops in that link
  link_stops : {s : Stop} → Heard (LinkText c) rest (stopped s more) → Heard (ChainText c) b (stopped s more)
  link_stops (begun {x = y} u t q w a) =
      begun {x = join c x y} {more = more} (v.front ++ joining c ∷ u) t (rw (v.splits, q, e, append_assoc))
      (rw append_assoc (links c v.front (u ++ t) x y v.text w)) a

module _ (k : Bracket) {o : ℕ} (e : o ≡ opening_byte k) {b more : Bytes} where
  -- a bracket that is closed
  close : {d : ℕ} {x : Joined (inside k)} → d ≡ closing_byte k → Span (ChainText (inside k)) b x (d ∷ more)
      → Span (BracketText k) (o ∷ b) x more
  close f v =
      record {
        front = opening_byte k ∷ v.front ++ closing_byte k ∷ [];
        splits = rw (v.splits, e, f, append_assoc);
        text = between v.front v.text;
      }

  -- one that another byte leaves open
  leave : {x : Joined (inside k)} → Span (ChainText (inside k)) b x more → Heard (BracketText k) (o ∷ b) (stopped broken more)
  leave v = begun {more = more} (opening_byte k ∷ v.front) (closing_byte k ∷ []) (rw (v.splits, e)) (between v.front v.text) anything

  -- one that may be closed behind where reading stops
  leave_stop : {s : Stop} → Heard (ChainText (inside k)) b (stopped s more) → Heard (BracketText k) (o ∷ b) (stopped s more)
  leave_stop (begun {x = x} u t q w a) =
      let text : BracketText k (opening_byte k ∷ (u ++ t) ++ closing_byte k ∷ []) x = between (u ++ t) w in
      begun {more = more} (opening_byte k ∷ u) (t ++ closing_byte k ∷ []) (rw (q, e)) (rw append_assoc at text)
      (longer (closing_byte k ∷ []) a)

-- a bracket that is one too many
not_opened : (k : Bracket) {o : ℕ} {b : Bytes} → o ≡ opening_byte k → Heard (BracketText k) (o ∷ b) (stopped deep (o ∷ b))
not_opened k {o = o} e =
    let (s, x, w) = example (inside k) in
    begun {x = x} [] (o ∷ s ++ closing_byte k ∷ []) refl (rw e (between s w)) bracket

-- a label's digits
heard_label : {b : Bytes} {r : Result ℕ} → LabelReads b r → Heard LabelText b r
heard_label (one_digit {d = d} l h second) = exactly ((48 + d) ∷ []) (grammar.one_digit l h)
heard_label (two_digits {d = d} {e = e} l h m) = exactly ((48 + d) ∷ (48 + e) ∷ []) (grammar.two_digits l h m)
heard_label (no_digit h) = begun [] (49 ∷ []) refl (grammar.one_digit {d = 1} (omega arith) (omega arith)) anything

-- stars behind an item
heard_stars : {i : Path} {b : Bytes} {r : Result Path} → StarsRead i b r → {before : Bytes} → Span ItemText before i b
    → Heard ItemText before r
heard_stars (one_more x) v =
    heard_stars x (record { front = v.front ++ 42 ∷ []; splits = rw (v.splits, append_assoc); text = grammar.starred v.text })
heard_stars (no_more h) v = whole v

-- Each kind of rule gets texts of its kind; a rule that goes on is given the text before it.
module _ {limit : ℕ} where
  mutual
    pub heard : {c : Chain} {n : ℕ} {b : Bytes} {r : Result (Joined c)} → ChainReads limit c n b r → Heard (ChainText c) b r
    heard (starts {c = c} x y) = heard_on y (span (lift_all (one_link c) (heard_link x)))
    heard (start_stops {c = c} x) = lift_all (one_link c) (heard_link x)

    heard_on : {c : Chain} {n : ℕ} {x : Joined c} {b : Bytes} {r : Result (Joined c)}
        → GoesOn limit c n x b r → {before : Bytes} → Span (ChainText c) before x b → Heard (ChainText c) before r
    heard_on (joined {c = c} e x y) v = heard_on y (link_on c e v (span (heard_link x)))
    heard_on (joined_stops {c = c} e x) v = link_stops c e v (heard_link x)
    heard_on (ends h) v = whole v

    heard_link : {c : Chain} {n : ℕ} {b : Bytes} {r : Result (Joined c)} → LinkReads limit c n b r → Heard (LinkText c) b r
    heard_link (sequence x) = heard x
    heard_link (item x y) = heard_stars y (lift (λ s w. grammar.an_atom w) (span (heard_atom x)))
    heard_link (item_stops x) = lift_stop (λ s q w. (q, grammar.an_atom w)) (heard_atom x)
    heard_link (conjunction x) = heard x
    heard_link (exclamation x) = whole (ahead (λ s w. grammar.exclamation w) (span (heard_link x)))
    heard_link (exclamation_stops x) = ahead_stop (λ s f w. (_, grammar.exclamation w)) (heard_link x)
    heard_link letter_t = exactly (116 ∷ []) grammar.letter_t
    heard_link letter_f = exactly (102 ∷ []) grammar.letter_f
    heard_link (hash x) = whole (ahead (λ s w. grammar.hash w) (span (heard_label x)))
    heard_link (hash_stops x) = ahead_stop (λ s l w. (_, grammar.hash w)) (heard_label x)
    heard_link (curly x) = lift_all (λ s f w. curly_text w) (heard_bracket x)
    heard_link (a_path h x) = whole (lift (λ s w. grammar.a_path w) (span (heard x)))
    heard_link (a_path_stops h x) = lift_stop (λ s p w. (_, grammar.a_path w)) (heard x)

    heard_atom : {n : ℕ} {b : Bytes} {r : Result Path} → AtomReads limit n b r → Heard AtomText b r
    heard_atom dot = exactly (46 ∷ []) grammar.dot
    heard_atom letter_v = exactly (118 ∷ []) grammar.letter_v
    heard_atom caret = exactly (94 ∷ []) grammar.caret
    heard_atom greater = exactly (62 ∷ []) grammar.greater
    heard_atom less = exactly (60 ∷ []) grammar.less
    heard_atom (square x) = whole (lift (λ s w. square_text w) (span (heard_bracket x)))
    heard_atom (square_stops x) = lift_stop (λ s f w. (_, square_text w)) (heard_bracket x)
    heard_atom (round x) = lift_all (λ s p w. round_text w) (heard_bracket x)
    heard_atom (no_atom h) = begun [] (46 ∷ []) refl grammar.dot anything

    heard_bracket : {k : Bracket} {n : ℕ} {b : Bytes} {r : Result (Joined (inside k))} → BracketReads limit k n b r
        → Heard (BracketText k) b r
    heard_bracket (closed {k = k} e l x f) = whole (close k e f (span (heard x)))
    heard_bracket (stays_open {k = k} e l x h) = leave k e (span (heard x))
    heard_bracket (inside_stops {k = k} e l x) = leave_stop k e (heard x)
    heard_bracket (too_deep {k = k} e l) = not_opened k e
