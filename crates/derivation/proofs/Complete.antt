-- The rules read every text of the grammar, where they may open as many brackets as it has bytes. Assumes nothing.
use Prim.Native.Nat.{ℕ, suc, ◌+◌, ◌≤◌, ◌<◌}
use native.Mathlib.Omega.{arith}
use mathlib.Core.Path.{refl, sym}
use mathlib.Core.List.Memᴰ
use mathlib.Core.List.{List, [], ◌∷◌, ◌++◌, append-nil, append_assoc, Memᴰ}
use lib.Dec.{T}
use lib.ListN.{length, length-append}
use Rattle.reply.specs.Bytes.{Bytes}
use Rattle.query.specs.Syntax.{Path, Filter}
use Rattle.text.specs.Grammar as grammar
use Rattle.text.specs.Grammar.{LabelText, PathText, SequenceText, ItemText, AtomText}
use Rattle.derivation.specs.declared.Chain.{Chain}
use Rattle.derivation.specs.declared.Chain.TheVariants as chain
use Rattle.derivation.specs.declared.Bracket.{Bracket}
use Rattle.derivation.specs.declared.Bracket.TheVariants as bracket
use Rattle.derivation.specs.Parts.{Joined, join, joining, inside, opening_byte, closing_byte}
use Rattle.derivation.proofs.Rules.{Result, got, NotAt, ended, other, term_bytes, NoSecond, too_low, too_high}
use Rattle.derivation.proofs.Rules.{LabelReads, one_digit, two_digits, StarsRead, one_more, no_more}
use Rattle.derivation.proofs.Rules.{ChainReads, starts, GoesOn, joined, ends, PathReads, ItemReads}
use Rattle.derivation.proofs.Rules.{LinkReads, sequence, item, conjunction, exclamation, letter_t, letter_f, hash, curly, a_path}
use Rattle.derivation.proofs.Rules.{AtomReads, dot, letter_v, caret, greater, less, square, round, BracketReads, closed}
use Rattle.derivation.proofs.NextByte.{apart, absent, not_at}

-- & + ] }, one of which stands behind every term
abbrev behind_bytes : List ℕ
behind_bytes = 38 ∷ 43 ∷ 93 ∷ 125 ∷ []

-- the text goes on with one of them
data EndsTerm : Bytes → Type 0 where
  behind : {c : ℕ} {b : Bytes} → Memᴰ c behind_bytes → EndsTerm (c ∷ b)

-- so it does not go on with any other byte
behind_not_at : {c : ℕ} {b : Bytes} → T (apart c behind_bytes) → EndsTerm b → NotAt (c ∷ []) b
behind_not_at t (behind m) = other (λ k. absent behind_bytes t (Memᴰ.cast (sym (Memᴰ.eq_of_singleton k)) m))

at_ampersand : {b : Bytes} → EndsTerm (38 ∷ b)
at_ampersand = behind (Memᴰ.head refl)

at_plus : {b : Bytes} → EndsTerm (43 ∷ b)
at_plus = behind (Memᴰ.tail (Memᴰ.head refl))

at_square : {b : Bytes} → EndsTerm (93 ∷ b)
at_square = behind (Memᴰ.tail (Memᴰ.tail (Memᴰ.head refl)))

at_curly : {b : Bytes} → EndsTerm (125 ∷ b)
at_curly = behind (Memᴰ.tail (Memᴰ.tail (Memᴰ.tail (Memᴰ.head refl))))

-- nor with a digit
no_second : {d : ℕ} {b : Bytes} → EndsTerm b → NoSecond d b
no_second (behind {c = c} (Memᴰ.head e)) = too_low {c = c} (omega arith)
no_second (behind {c = c} (Memᴰ.tail (Memᴰ.head e))) = too_low {c = c} (omega arith)
no_second (behind {c = c} (Memᴰ.tail (Memᴰ.tail (Memᴰ.head e)))) = too_high {c = c} (omega arith)
no_second (behind {c = c} (Memᴰ.tail (Memᴰ.tail (Memᴰ.tail (Memᴰ.head e))))) = too_high {c = c} (omega arith)
no_second (behind (Memᴰ.tail (Memᴰ.tail (Memᴰ.tail (Memᴰ.tail m))))) = absurd (Memᴰ.not-nil m)

-- a label is read as its number
label_followed : {s more : Bytes} {l : ℕ} → LabelText s l → EndsTerm more → LabelReads (s ++ more) (got l more)
label_followed (grammar.one_digit l h) a = one_digit l h (no_second a)
label_followed (grammar.two_digits l h m) a = two_digits l h m

-- a path does not begin as any other term does
atom_begins : {s : Bytes} {p : Path} → AtomText s p → (more : Bytes) → NotAt term_bytes (s ++ more)
atom_begins grammar.dot more = not_at tt
atom_begins grammar.letter_v more = not_at tt
atom_begins grammar.caret more = not_at tt
atom_begins grammar.greater more = not_at tt
atom_begins grammar.less more = not_at tt
atom_begins (grammar.square x) more = not_at tt
atom_begins (grammar.round x) more = not_at tt

item_begins : {s : Bytes} {p : Path} → ItemText s p → (more : Bytes) → NotAt term_bytes (s ++ more)
item_begins (grammar.an_atom x) more = atom_begins x more
item_begins (grammar.starred x) more = rw append_assoc (item_begins x (42 ∷ more))

sequence_begins : {s : Bytes} {p : Path} → SequenceText s p → (more : Bytes) → NotAt term_bytes (s ++ more)
sequence_begins (grammar.one_item x) more = item_begins x more
sequence_begins (grammar.slash {u = u} x y) more = rw append_assoc (sequence_begins x (47 ∷ u ++ more))

path_begins : {s : Bytes} {p : Path} → PathText s p → (more : Bytes) → NotAt term_bytes (s ++ more)
path_begins (grammar.one_sequence x) more = sequence_begins x more
path_begins (grammar.bar {u = u} x y) more = rw append_assoc (path_begins x (124 ∷ u ++ more))

-- What may stand behind a chain, and is not taken for more of its links.
abbrev Apart : Chain → Bytes → Type 0
Apart chain.Path more = NotAt (42 ∷ []) more × NotAt (47 ∷ []) more
Apart chain.Sequence more = NotAt (42 ∷ []) more
Apart chain.Filter more = EndsTerm more × NotAt (38 ∷ []) more
Apart chain.Conjunction more = EndsTerm more

-- the byte that joins them does
joint_apart : (c : Chain) (b : Bytes) → Apart c (joining c ∷ b)
joint_apart chain.Path b = (not_at tt, not_at tt)
joint_apart chain.Sequence b = not_at tt
joint_apart chain.Filter b = (at_plus, not_at tt)
joint_apart chain.Conjunction b = at_ampersand

-- and the byte that closes a bracket, which joins no more
close_apart : (k : Bracket) (b : Bytes) → Apart (inside k) (closing_byte k ∷ b) × NotAt (joining (inside k) ∷ []) (closing_byte k ∷ b)
close_apart bracket.Square b = ((at_square, not_at tt), not_at tt)
close_apart bracket.Round b = ((not_at tt, not_at tt), not_at tt)
close_apart bracket.Curly b = ((at_curly, not_at tt), not_at tt)

-- A text of each kind is read as what it stands for, before any rest that is apart from it; where the rest may go on, reading goes on
-- there.
module _ (limit : ℕ) where
  abbrev ChainFollowed : (c : Chain) → Bytes → Joined c → Type 0
  ChainFollowed c s x =
      (n : ℕ) (more : Bytes) (r : Result (Joined c)) → n + length s ≤ limit → Apart c more → GoesOn limit c n x more r
      → ChainReads limit c n (s ++ more) r

  abbrev LinkFollowed : (c : Chain) → Bytes → Joined c → Type 0
  LinkFollowed c s x = (n : ℕ) (more : Bytes) → n + length s ≤ limit → Apart c more → LinkReads limit c n (s ++ more) (got x more)

  abbrev ItemFollowed : Bytes → Path → Type 0
  ItemFollowed s p = (n : ℕ) (more : Bytes) (r : Result Path) → n + length s ≤ limit → StarsRead p more r → ItemReads limit n (s ++ more) r

  abbrev AtomFollowed : Bytes → Path → Type 0
  AtomFollowed s p = (n : ℕ) (more : Bytes) → n + length s ≤ limit → AtomReads limit n (s ++ more) (got p more)

  -- a first link, and one that is joined to a chain
  one_link : (c : Chain) (s : Bytes) (x : Joined c) → LinkFollowed c s x → ChainFollowed c s x
  one_link c s x h n more r l a z = starts (h n more l a) z

  links : (c : Chain) (s u : Bytes) (x y : Joined c) → ChainFollowed c s x → LinkFollowed c u y
      → ChainFollowed c (s ++ joining c ∷ u) (join c x y)
  links c s u x y h k n more r l a z =
      let e = length-append s (joining c ∷ u) in
      rw append_assoc (h n (joining c ∷ u ++ more) r (omega arith) (joint_apart c (u ++ more)) (joined refl (k n more (omega arith) a) z))

  -- sequences, items and conjunctions as links
  sequence_link : (s : Bytes) (p : Path) → ChainFollowed chain.Sequence s p → LinkFollowed chain.Path s p
  sequence_link s p h n more l a = sequence (h n more (got p more) l a.0 (ends a.1))

  item_link : (s : Bytes) (p : Path) → ItemFollowed s p → LinkFollowed chain.Sequence s p
  item_link s p h n more l a = h n more (got p more) l (no_more a)

  conjunction_link : (s : Bytes) (f : Filter) → ChainFollowed chain.Conjunction s f → LinkFollowed chain.Filter s f
  conjunction_link s f h n more l a = conjunction (h n more (got f more) l a.0 (ends a.1))

  -- a bracket
  enclosed : (k : Bracket) (s : Bytes) (x : Joined (inside k)) → ChainFollowed (inside k) s x → (n : ℕ) (more : Bytes)
      → n + length (opening_byte k ∷ s ++ closing_byte k ∷ []) ≤ limit
      → BracketReads limit k n (opening_byte k ∷ (s ++ closing_byte k ∷ []) ++ more) (got x more)
  enclosed k s x h n more l =
      let e = length-append s (closing_byte k ∷ []) in
      let room : n < limit = omega arith in
      let rest : Bytes = closing_byte k ∷ more in
      let (around, no_joint) = close_apart k more in
      rw append_assoc (closed refl room (h (suc n) rest (got x rest) (omega arith) around (ends no_joint)) refl)

  -- by induction over the grammar, all kinds at once
  path_followed : {s : Bytes} {p : Path} → PathText s p → ChainFollowed chain.Path s p
  path_followed x =
      elim x as (λ s p y. ChainFollowed chain.Path s p) (λ s p y. ChainFollowed chain.Sequence s p)
      (λ s p y. ItemFollowed s p) (λ s p y. AtomFollowed s p)
      (λ s f y. ChainFollowed chain.Filter s f) (λ s f y. ChainFollowed chain.Conjunction s f)
      (λ s f y. LinkFollowed chain.Conjunction s f) [
        | grammar.one_sequence {s = s} {p = p} (x → h) ↦ one_link chain.Path s p (sequence_link s p h)
        | grammar.bar {s = s} {u = u} {p = p} {q = q} (x → h) (y → k) ↦ links chain.Path s u p q h (sequence_link u q k)
        | grammar.one_item {s = s} {p = p} (x → h) ↦ one_link chain.Sequence s p (item_link s p h)
        | grammar.slash {s = s} {u = u} {p = p} {q = q} (x → h) (y → k) ↦ links chain.Sequence s u p q h (item_link u q k)
        | grammar.an_atom (x → h) ↦ λ n more r l z. item (h n more l) z
        | grammar.starred {s = s} (x → h) ↦
            λ n more r l z.
            let e = length-append s (42 ∷ []) in
            rw append_assoc (h n (42 ∷ more) r (omega arith) (one_more z))
        | grammar.dot ↦ λ n more l. dot
        | grammar.letter_v ↦ λ n more l. letter_v
        | grammar.caret ↦ λ n more l. caret
        | grammar.greater ↦ λ n more l. greater
        | grammar.less ↦ λ n more l. less
        | grammar.square {s = s} {f = f} (x → h) ↦ λ n more l. square (enclosed bracket.Square s f h n more l)
        | grammar.round {s = s} {p = p} (x → h) ↦ λ n more l. round (enclosed bracket.Round s p h n more l)
        | grammar.one_conjunction {s = s} {f = f} (x → h) ↦ one_link chain.Filter s f (conjunction_link s f h)
        | grammar.plus {s = s} {u = u} {f = f} {g = g} (x → h) (y → k) ↦ links chain.Filter s u f g h (conjunction_link u g k)
        | grammar.one_term {s = s} {f = f} (x → h) ↦ one_link chain.Conjunction s f h
        | grammar.ampersand {s = s} {u = u} {f = f} {g = g} (x → h) (y → k) ↦ links chain.Conjunction s u f g h k
        | grammar.exclamation (x → h) ↦ λ n more l a. exclamation (h n more (omega arith) a)
        | grammar.letter_t ↦ λ n more l a. letter_t
        | grammar.letter_f ↦ λ n more l a. letter_f
        | grammar.hash x ↦ λ n more l a. hash (label_followed x a)
        | grammar.curly {s = s} {f = f} (x → h) ↦ λ n more l a. curly (enclosed bracket.Curly s f h n more l)
        | grammar.a_path {p = p} (x → h) ↦
            λ n more l a.
            a_path (path_begins x more) (h n more (got p more) l (behind_not_at tt a, behind_not_at tt a) (ends (behind_not_at tt a)))
      ]

-- A whole text is read as its path.
pub text_read : {s : Bytes} {p : Path} (limit : ℕ) → length s ≤ limit → PathText s p → PathReads limit 0 s (got p [])
text_read {s} {p} limit l x = rw append-nil at (path_followed limit x 0 [] (got p []) (omega arith) (ended, ended) (ends ended))
