-- How a reader goes through a text, as rules: one family for all chains, one for their links, one for all brackets, each step decided by
-- the next byte.
-- Nothing here has to be believed: the laws of this crate say what the rules come to, in terms of the grammar. Assumes nothing.
use Prim.Native.Nat.{ℕ, suc, ◌+◌, ◌*◌, ◌≤◌, ◌<◌}
use mathlib.Core.Path.{◌≡◌}
use mathlib.Core.List.{List, [], ◌∷◌, Memᴰ}
use Rattle.reply.specs.Bytes.{Bytes}
use Rattle.query.specs.Syntax.{Path, self, child, parent, next, previous, stay, star}
use Rattle.query.specs.Syntax.{Filter, labelled, leads, always, never, not}
use Rattle.derivation.specs.declared.Chain.{Chain}
use Rattle.derivation.specs.declared.Chain.TheVariants as chain
use Rattle.derivation.specs.declared.Bracket.{Bracket}
use Rattle.derivation.specs.declared.Bracket.TheVariants as bracket
use Rattle.derivation.specs.Parts.{Joined, join, joining, inside, opening_byte, closing_byte}

-- Why reading stops: at a byte that the grammar does not take, or at a bracket that is one too many.
pub data Stop : Type 0 where
  broken deep : Stop

-- What reading comes to, with the unread text: something read, or a stop at the first unread byte.
pub data Result (A : Type 0) : Type 0 where
  got : A → Bytes → Result A
  stopped : Stop → Bytes → Result A

-- the text is at its end, or its next byte is none of these
pub data NotAt (these : List ℕ) : Bytes → Type 0 where
  ended : NotAt these []
  other : {c : ℕ} {b : Bytes} → ¬ Memᴰ c these → NotAt these (c ∷ b)

-- . v ^ > < [ (
abbrev pub atom_bytes : List ℕ
atom_bytes = 46 ∷ 118 ∷ 94 ∷ 62 ∷ 60 ∷ 91 ∷ 40 ∷ []

-- ! t f # {
abbrev pub term_bytes : List ℕ
term_bytes = 33 ∷ 116 ∷ 102 ∷ 35 ∷ 123 ∷ []

-- the next byte is no digit that makes a label of two digits with d
pub data NoSecond (d : ℕ) : Bytes → Type 0 where
  ended : NoSecond d []
  too_low : {c : ℕ} {b : Bytes} → c < 48 → NoSecond d (c ∷ b)
  too_high : {c : ℕ} {b : Bytes} → 57 < c → NoSecond d (c ∷ b)
  too_large : {e : ℕ} {b : Bytes} → e ≤ 9 → 64 < 10 * d + e → NoSecond d ((48 + e) ∷ b)

-- the next byte is no digit from 1 to 9
pub data NoDigit : Bytes → Type 0 where
  ended : NoDigit []
  too_low : {c : ℕ} {b : Bytes} → c < 49 → NoDigit (c ∷ b)
  too_high : {c : ℕ} {b : Bytes} → 57 < c → NoDigit (c ∷ b)

pub data LabelReads : Bytes → Result ℕ → Type 0 where
  one_digit : {d : ℕ} {b : Bytes} → 1 ≤ d → d ≤ 9 → NoSecond d b → LabelReads ((48 + d) ∷ b) (got d b)
  two_digits : {d e : ℕ} {b : Bytes} → 1 ≤ d → e ≤ 9 → 10 * d + e ≤ 64 → LabelReads ((48 + d) ∷ (48 + e) ∷ b) (got (10 * d + e) b)
  no_digit : {b : Bytes} → NoDigit b → LabelReads b (stopped broken b)

-- stars behind an item
pub data StarsRead : Path → Bytes → Result Path → Type 0 where
  one_more : {p : Path} {b : Bytes} {r : Result Path} → StarsRead (star p) b r → StarsRead p (42 ∷ b) r
  no_more : {p : Path} {b : Bytes} → NotAt (42 ∷ []) b → StarsRead p b (got p b)

-- With n brackets open, reading the bytes comes to a result. At most `limit` brackets may be open at once: 32 by document 01.
module _ (limit : ℕ) where
  mutual
    -- a chain: its first link, and what follows
    pub data ChainReads : (c : Chain) → ℕ → Bytes → Result (Joined c) → Type 0 where
      starts : {c : Chain} {n : ℕ} {b more : Bytes} {x : Joined c} {r : Result (Joined c)}
          → LinkReads c n b (got x more) → GoesOn c n x more r → ChainReads c n b r
      start_stops : {c : Chain} {n : ℕ} {b more : Bytes} {s : Stop} → LinkReads c n b (stopped s more) → ChainReads c n b (stopped s more)

    -- so much of a chain is read, and what follows may add to it
    pub data GoesOn : (c : Chain) → ℕ → Joined c → Bytes → Result (Joined c) → Type 0 where
      joined : {c : Chain} {n j : ℕ} {b more : Bytes} {x y : Joined c} {r : Result (Joined c)}
          → j ≡ joining c → LinkReads c n b (got y more) → GoesOn c n (join c x y) more r → GoesOn c n x (j ∷ b) r
      joined_stops : {c : Chain} {n j : ℕ} {b more : Bytes} {x : Joined c} {s : Stop}
          → j ≡ joining c → LinkReads c n b (stopped s more) → GoesOn c n x (j ∷ b) (stopped s more)
      ends : {c : Chain} {n : ℕ} {b : Bytes} {x : Joined c} → NotAt (joining c ∷ []) b → GoesOn c n x b (got x b)

    -- the links: sequences of a path, items of a sequence, conjunctions of a filter, terms of a conjunction
    pub data LinkReads : (c : Chain) → ℕ → Bytes → Result (Joined c) → Type 0 where
      sequence : {n : ℕ} {b : Bytes} {r : Result Path} → ChainReads chain.Sequence n b r → LinkReads chain.Path n b r
      item : {n : ℕ} {b more : Bytes} {p : Path} {r : Result Path}
          → AtomReads n b (got p more) → StarsRead p more r → LinkReads chain.Sequence n b r
      item_stops : {n : ℕ} {b more : Bytes} {s : Stop} → AtomReads n b (stopped s more) → LinkReads chain.Sequence n b (stopped s more)
      conjunction : {n : ℕ} {b : Bytes} {r : Result Filter} → ChainReads chain.Conjunction n b r → LinkReads chain.Filter n b r
      exclamation : {n : ℕ} {b more : Bytes} {f : Filter}
          → LinkReads chain.Conjunction n b (got f more) → LinkReads chain.Conjunction n (33 ∷ b) (got (not f) more)
      exclamation_stops : {n : ℕ} {b more : Bytes} {s : Stop}
          → LinkReads chain.Conjunction n b (stopped s more) → LinkReads chain.Conjunction n (33 ∷ b) (stopped s more)
      letter_t : {n : ℕ} {b : Bytes} → LinkReads chain.Conjunction n (116 ∷ b) (got always b)
      letter_f : {n : ℕ} {b : Bytes} → LinkReads chain.Conjunction n (102 ∷ b) (got never b)
      hash : {n : ℕ} {b more : Bytes} {l : ℕ} → LabelReads b (got l more) → LinkReads chain.Conjunction n (35 ∷ b) (got (labelled l) more)
      hash_stops : {n : ℕ} {b more : Bytes} {s : Stop}
          → LabelReads b (stopped s more) → LinkReads chain.Conjunction n (35 ∷ b) (stopped s more)
      curly : {n : ℕ} {b : Bytes} {r : Result Filter} → BracketReads bracket.Curly n b r → LinkReads chain.Conjunction n b r
      a_path : {n : ℕ} {b more : Bytes} {p : Path}
          → NotAt term_bytes b → ChainReads chain.Path n b (got p more) → LinkReads chain.Conjunction n b (got (leads p) more)
      a_path_stops : {n : ℕ} {b more : Bytes} {s : Stop}
          → NotAt term_bytes b → ChainReads chain.Path n b (stopped s more) → LinkReads chain.Conjunction n b (stopped s more)

    pub data AtomReads : ℕ → Bytes → Result Path → Type 0 where
      dot : {n : ℕ} {b : Bytes} → AtomReads n (46 ∷ b) (got self b)
      letter_v : {n : ℕ} {b : Bytes} → AtomReads n (118 ∷ b) (got child b)
      caret : {n : ℕ} {b : Bytes} → AtomReads n (94 ∷ b) (got parent b)
      greater : {n : ℕ} {b : Bytes} → AtomReads n (62 ∷ b) (got next b)
      less : {n : ℕ} {b : Bytes} → AtomReads n (60 ∷ b) (got previous b)
      square : {n : ℕ} {b more : Bytes} {f : Filter} → BracketReads bracket.Square n b (got f more) → AtomReads n b (got (stay f) more)
      square_stops : {n : ℕ} {b more : Bytes} {s : Stop} → BracketReads bracket.Square n b (stopped s more) → AtomReads n b (stopped s more)
      round : {n : ℕ} {b : Bytes} {r : Result Path} → BracketReads bracket.Round n b r → AtomReads n b r
      no_atom : {n : ℕ} {b : Bytes} → NotAt atom_bytes b → AtomReads n b (stopped broken b)

    -- a bracket: what stands in it is read with one more open, up to the byte that closes it
    pub data BracketReads : (k : Bracket) → ℕ → Bytes → Result (Joined (inside k)) → Type 0 where
      closed : {k : Bracket} {n o d : ℕ} {b more : Bytes} {x : Joined (inside k)}
          → o ≡ opening_byte k → n < limit → ChainReads (inside k) (suc n) b (got x (d ∷ more)) → d ≡ closing_byte k
          → BracketReads k n (o ∷ b) (got x more)
      stays_open : {k : Bracket} {n o : ℕ} {b more : Bytes} {x : Joined (inside k)}
          → o ≡ opening_byte k → n < limit → ChainReads (inside k) (suc n) b (got x more) → NotAt (closing_byte k ∷ []) more
          → BracketReads k n (o ∷ b) (stopped broken more)
      inside_stops : {k : Bracket} {n o : ℕ} {b more : Bytes} {s : Stop}
          → o ≡ opening_byte k → n < limit → ChainReads (inside k) (suc n) b (stopped s more) → BracketReads k n (o ∷ b) (stopped s more)
      too_deep : {k : Bracket} {n o : ℕ} {b : Bytes} → o ≡ opening_byte k → limit ≤ n → BracketReads k n (o ∷ b) (stopped deep (o ∷ b))

  abbrev pub PathReads : ℕ → Bytes → Result Path → Type 0
  PathReads = ChainReads chain.Path

  abbrev pub FilterReads : ℕ → Bytes → Result Filter → Type 0
  FilterReads = ChainReads chain.Filter

  abbrev pub ItemReads : ℕ → Bytes → Result Path → Type 0
  ItemReads = LinkReads chain.Sequence

  abbrev pub TermReads : ℕ → Bytes → Result Filter → Type 0
  TermReads = LinkReads chain.Conjunction
