-- What call 2, "read a text", promises: which texts are refused, with which number and where, and what is written for any other.
use Rattle.std.specs.Prelude.{ℕ, suc, ◌+◌, ◌≤◌, ◌<◌, ◌≡◌, ◌⊎◌, Bool, true, false, ◌||◌, [], ◌∷◌, ◌++◌, eqb, T, length, get_or, take}
use Prim.Native.Char.{code}
use Rattle.reply.specs.Reply.{Said}
use Rattle.reply.specs.Bytes.{Bytes, Written}
use Rattle.reply.specs.Outcome.{Outcome}
use Rattle.query.specs.Syntax.{Path}
use Rattle.query.specs.Table.{Entries, entry_bytes, height_at}
use Rattle.query.specs.Fault.{curators}
use Rattle.text.specs.Grammar.{PathText}
use Rattle.text.specs.Written.{table_of}

-- "ASCII, 1 to 1,024 bytes"
pub record TextLength (text : Bytes) : Type 0 where
  pub some : 1 ≤ length text
  pub most : length text ≤ 1024

-- some query text, of any length, begins with these bytes
unfoldable pub Begins : Bytes → Type 0
Begins b = (more : Bytes) × (p : Path) × PathText (b ++ more) p

-- "The place for 14 is the first byte such that no query text of any length begins with the bytes up to it and with it;
-- if there is none, the text's length."
pub record Breaks (text : Bytes) (i : ℕ) : Type 0 where
  pub no_path : (p : Path) → ¬ PathText text p
  pub before : (k : ℕ) → k < i → Begins (take (suc k) text)
  pub stops : (i ≡ length text) ⊎ ((i < length text) × ¬ Begins (take (suc i) text))

-- the brackets that open
unfoldable pub opening : ℕ → Bool
opening c = eqb c (code "(") || eqb c (code "[") || eqb c (code "{")

-- and those that close
unfoldable pub closing : ℕ → Bool
closing c = eqb c (code ")") || eqb c (code "]") || eqb c (code "}")

-- how many of the bytes are such
unfoldable pub how_many : (ℕ → Bool) → Bytes → ℕ
how_many is [] = 0
how_many is (c ∷ more) = elim (is c) [ true ↦ suc (how_many is more) | false ↦ how_many is more ]

-- 15, "a bracket is opened while 32 are open"
pub record OneTooMany (text : Bytes) (i : ℕ) : Type 0 where
  pub within : i < length text
  pub bracket : T (opening (get_or text i 0))
  pub already : how_many opening (take i text) ≡ how_many closing (take i text) + 32

-- 19: at this place stands a "star right behind a star"
pub data StarBehindStar (text : Bytes) : ℕ → Type 0 where
  behind : {i : ℕ} → get_or text i 0 ≡ code "*" → get_or text (suc i) 0 ≡ code "*" → StarBehindStar text (suc i)

-- What may be wrong at a place of a text, by its number.
pub data Mistake (text : Bytes) : ℕ → ℕ → Type 0 where
  breaks : {i : ℕ} → Breaks text i → Mistake text 14 i
  too_deep : {i : ℕ} → OneTooMany text i → Mistake text 15 i
  two_stars : {i : ℕ} → StarBehindStar text i → Mistake text 19 i

-- "of 14, 15 and 19 the lowest place wins", "14 if equal": the lowest number, at the lowest place
pub record FirstMistake (text : Bytes) (n i : ℕ) : Type 0 where
  pub is : Mistake text n i
  pub first : (m k : ℕ) → Mistake text m k → (i < k) ⊎ ((i ≡ k) × (n ≤ m))

-- nothing is wrong at any place
unfoldable pub Faultless : Bytes → Type 0
Faultless text = (n i : ℕ) → ¬ Mistake text n i

-- The table is within the curator's limits.
pub record Fits (es : Entries) : Type 0 where
  pub few : length es ≤ curators.entries
  pub low : (i : ℕ) → i < length es → height_at es i ≤ curators.height

-- "Text: 1, 13, then 14 or 15 at the lower place, 14 if equal, then 16", and Q-2's 19 between them
pub data TextFault (text : Bytes) : ℕ → ℕ → Type 0 where
  bad_length : ¬ TextLength text → TextFault text 13 0
  mistaken : {n i : ℕ} → TextLength text → FirstMistake text n i → TextFault text n i
  too_large : {p : Path} → TextLength text → PathText text p → Faultless text → ¬ Fits (table_of p) → TextFault text 16 0

-- The text is one of the path p, and nothing is wrong with it.
pub record TextOf (p : Path) (text : Bytes) : Type 0 where
  pub length : TextLength text
  pub path : PathText text p
  pub faultless : Faultless text
  pub fits : Fits (table_of p)

-- The path's table is in the room, and the count is its number of entries.
pub record TableGiven (text before : Bytes) (c : ℕ) (after : Bytes) : Type 0 where
  pub path : Path
  pub text_of : TextOf path text
  pub count : c ≡ length (table_of path)
  pub written : Written before (entry_bytes (table_of path)) after

-- Call 2: "Read a text into a table; room 1,536 bytes. Gives the number of entries."
unfoldable pub TextRead : Bytes → Bytes → Said → Bytes → Type 0
TextRead text before said after =
    Outcome 1536 ((p : Path) × TextOf p text) (TextFault text) (TableGiven text before) before said after
