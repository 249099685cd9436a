-- A function that reads a text by the rules, and gives its reading along. It serves worked cases, by computation. Assumes nothing.
use Prim.Native.Nat.{ℕ, zero, suc, ◌+◌, ◌-◌, ◌*◌, ◌≤◌, ◌<◌}
use native.Mathlib.Omega.{arith}
use native.Mathlib.Decide.{ℕ_discrete, dec_le, dec_lt}
use mathlib.Core.Path.{◌≡◌, refl, ap, subst}
use mathlib.Core.Logic.{◌⊎◌, inl, inr, ⊎_elim}
use mathlib.Core.List.Memᴰ
use mathlib.Core.List.{List, [], ◌∷◌, Memᴰ}
use lib.ListN.{length}
use Rattle.reply.specs.Bytes.{Bytes}
use Rattle.query.specs.Syntax.{Path, self, child, parent, next, previous, stay, star}
use Rattle.query.specs.Syntax.{labelled, leads, always, never, not}
use Rattle.derivation.specs.declared.Chain.{Chain}
use Rattle.derivation.specs.declared.Chain.TheVariants as chains
use Rattle.derivation.specs.declared.Bracket.{Bracket}
use Rattle.derivation.specs.declared.Bracket.TheVariants as brackets
use Rattle.derivation.specs.Parts.{Joined, join, joining, inside, opening_byte, closing_byte}
use Rattle.derivation.proofs.Rules.{Stop, broken, deep, Result, got, stopped, NotAt, atom_bytes, term_bytes, NoSecond, NoDigit}
use Rattle.derivation.proofs.Rules.{LabelReads, StarsRead}
use Rattle.derivation.proofs.Rules.{ChainReads, starts, start_stops, GoesOn, joined, joined_stops, ends}
use Rattle.derivation.proofs.Rules.{LinkReads, sequence, item, item_stops, conjunction, exclamation, exclamation_stops}
use Rattle.derivation.proofs.Rules.{letter_t, letter_f, hash, hash_stops, curly, a_path, a_path_stops}
use Rattle.derivation.proofs.Rules.{AtomReads, dot, letter_v, caret, greater, less, square, square_stops, round, no_atom}
use Rattle.derivation.proofs.Rules.{BracketReads, closed, stays_open, inside_stops, too_deep}

-- a result with its reading, or nothing where the steps allowed are used up
pub data Reading {A : Type 0} (Reads : Result A → Type 0) : Type 0 where
  no_steps : Reading Reads
  read : (r : Result A) → Reads r → Reading Reads

-- go on with what was read, or with why reading stopped
chain : {A B : Type 0} {S : Result A → Type 0} {P : Result B → Type 0} → Reading S
    → ((a : A) (more : Bytes) → S (got a more) → Reading P) → ((s : Stop) (more : Bytes) → S (stopped s more) → Reading P) → Reading P
chain no_steps on stops = no_steps
chain (read (got a more) d) on stops = on a more d
chain (read (stopped s more) d) on stops = stops s more d

-- a reading of one kind as a reading of another
carry : {A : Type 0} {S P : Result A → Type 0} → ((r : Result A) → S r → P r) → Reading S → Reading P
carry f no_steps = no_steps
carry f (read r d) = read r (f r d)

-- a byte that is not x
other_than : {x c : ℕ} {b : Bytes} → ¬ (c ≡ x) → NotAt (x ∷ []) (c ∷ b)
other_than n = NotAt.other (λ m. ⊎_elim n Memᴰ.not-nil (Memᴰ.cases_cons m))

-- whether the next byte is x
next_is : (x : ℕ) (b : Bytes) → ((more : Bytes) × (b ≡ x ∷ more)) ⊎ NotAt (x ∷ []) b
next_is x [] = inr NotAt.ended
next_is x (c ∷ b) =
    elim (ℕ_discrete c x) [
      | yes e ↦ inl (b, ap (λ (y : ℕ). y ∷ b) e)
      | no n ↦ inr (other_than n)
    ]

-- whether a byte is one of these
one_of : (c : ℕ) (these : List ℕ) → Memᴰ c these ⊎ (¬ Memᴰ c these)
one_of c [] = inr Memᴰ.not-nil
one_of c (x ∷ these) =
    elim (ℕ_discrete c x) [
      | yes e ↦ inl (Memᴰ.head e)
      | no n ↦ ⊎_elim (λ m. inl (Memᴰ.tail m)) (λ k. inr (λ m. ⊎_elim n k (Memᴰ.cases_cons m))) (one_of c these)
    ]

-- a digit of a label, and a second one where the two make a label
second_digit : (d : ℕ) → 1 ≤ d → d ≤ 9 → (b : Bytes) → Reading (LabelReads ((48 + d) ∷ b))
second_digit d low high [] = read (got d []) (LabelReads.one_digit low high NoSecond.ended)
second_digit d low high (c ∷ b) =
    elim (dec_lt c 48) [
      | yes l ↦ read (got d (c ∷ b)) (LabelReads.one_digit low high (NoSecond.too_low l))
      | no n ↦ elim (dec_lt 57 c) [
        | yes g ↦ read (got d (c ∷ b)) (LabelReads.one_digit low high (NoSecond.too_high g))
        | no m ↦ fits c (c - 48) (omega arith) (omega arith)
      ]
    ]
  where
    fits : (c e : ℕ) → c ≡ 48 + e → e ≤ 9 → Reading (LabelReads ((48 + d) ∷ c ∷ b))
    fits c e same small =
        elim (dec_le (10 * d + e) 64) [
          | yes l ↦ read (got (10 * d + e) b) (rw same (LabelReads.two_digits low small l))
          | no n ↦ read (got d (c ∷ b)) (rw same (LabelReads.one_digit low high (NoSecond.too_large small (omega arith))))
        ]

read_label : (b : Bytes) → Reading (LabelReads b)
read_label [] = read (stopped broken []) (LabelReads.no_digit NoDigit.ended)
read_label (c ∷ b) =
    elim (dec_lt c 49) [
      | yes l ↦ read (stopped broken (c ∷ b)) (LabelReads.no_digit (NoDigit.too_low l))
      | no n ↦ elim (dec_lt 57 c) [
        | yes g ↦ read (stopped broken (c ∷ b)) (LabelReads.no_digit (NoDigit.too_high g))
        | no m ↦ first (c - 48) (omega arith) (omega arith) (omega arith)
      ]
    ]
  where
    first : (d : ℕ) → 1 ≤ d → d ≤ 9 → 48 + d ≡ c → Reading (LabelReads (c ∷ b))
    first d low high same = subst (λ (x : ℕ). Reading (LabelReads (x ∷ b))) same (second_digit d low high b)

read_stars : (k : ℕ) (p : Path) (b : Bytes) → Reading (StarsRead p b)
read_stars zero p b = no_steps
read_stars (suc k) p b =
    ⊎_elim
    (λ (more, e). carry (λ r d. rw e (StarsRead.one_more d)) (read_stars k (star p) more))
    (λ n. read (got p b) (StarsRead.no_more n))
    (next_is 42 b)

-- the first byte is x, or it is not
at_byte : {A : Type 0} (P : Bytes → Result A → Type 0) (x c : ℕ) (b : Bytes) → (x ≡ x → Reading (P (x ∷ b))) → Reading (P (c ∷ b))
    → Reading (P (c ∷ b))
at_byte P x c b here other = elim (ℕ_discrete x c) [ yes e ↦ subst (λ (y : ℕ). Reading (P (y ∷ b))) e (here refl) | no n ↦ other ]

-- a path as a term
path_as_term : {limit n : ℕ} {b : Bytes} → NotAt term_bytes b → Reading (ChainReads limit chains.Path n b)
    → Reading (LinkReads limit chains.Conjunction n b)
unfolding chain
path_as_term off x = chain x (λ p more d. read (got (leads p) more) (a_path off d)) (λ s more d. read (stopped s more) (a_path_stops off d))

module _ {limit n : ℕ} (k : Bracket) {o : ℕ} (e : o ≡ opening_byte k) {b : Bytes} where
  -- what stands in a bracket is closed by the next byte, or it is not
  closing : n < limit → (x : Joined (inside k)) (more : Bytes) → ChainReads limit (inside k) (suc n) b (got x more)
      → Reading (BracketReads limit k n (o ∷ b))
  closing l x [] d = read (stopped broken []) (stays_open e l d NotAt.ended)
  closing l x (c ∷ more) d =
      elim (ℕ_discrete c (closing_byte k)) [
        | yes f ↦ read (got x more) (closed e l d f)
        | no m ↦ read (stopped broken (c ∷ more)) (stays_open e l d (other_than m))
      ]

  -- a bracket, where one more may be open
  in_brackets : (n < limit → Reading (ChainReads limit (inside k) (suc n) b)) → Reading (BracketReads limit k n (o ∷ b))
  unfolding closing
  in_brackets within =
      elim (dec_lt n limit) [
        | yes l ↦ chain (within l) (closing l) (λ s more d. read (stopped s more) (inside_stops e l d))
        | no m ↦ let full : limit ≤ n = omega arith in read (stopped deep (o ∷ b)) (too_deep e full)
      ]

module _ (limit : ℕ) where
  unfoldable mutual
    unfolding chain carry other_than next_is path_as_term one_of closing in_brackets at_byte read_stars read_label second_digit ℕ_discrete dec_lt dec_le

    read_chain : (c : Chain) (k n : ℕ) (b : Bytes) → Reading (ChainReads limit c n b)
    read_chain c zero n b = no_steps
    read_chain c (suc k) n b =
        chain (read_link c k n b) (λ x more d. carry (λ r e. starts d e) (go_on c k n x more))
        (λ s more d. read (stopped s more) (start_stops d))

    go_on : (c : Chain) (k n : ℕ) (x : Joined c) (b : Bytes) → Reading (GoesOn limit c n x b)
    go_on c zero n x b = no_steps
    go_on c (suc k) n x [] = read (got x []) (ends NotAt.ended)
    go_on c (suc k) n x (j ∷ b) =
        elim (ℕ_discrete j (joining c)) [
          | yes e ↦
              chain (read_link c k n b)
              (λ y more d. carry (λ r g. joined e d g) (go_on c k n (join c x y) more))
              (λ s more d. read (stopped s more) (joined_stops e d))
          | no m ↦ read (got x (j ∷ b)) (ends (other_than m))
        ]

    read_link : (c : Chain) (k n : ℕ) (b : Bytes) → Reading (LinkReads limit c n b)
    read_link c zero n b = no_steps
    read_link chains.Path (suc k) n b = carry (λ r d. sequence d) (read_chain chains.Sequence k n b)
    read_link chains.Sequence (suc k) n b =
        chain (read_atom k n b) (λ p more d. carry (λ r e. item d e) (read_stars k p more)) (λ s more d. read (stopped s more) (item_stops d))
    read_link chains.Filter (suc k) n b = carry (λ r d. conjunction d) (read_chain chains.Conjunction k n b)
    read_link chains.Conjunction (suc k) n [] = path_as_term NotAt.ended (read_chain chains.Path k n [])
    read_link chains.Conjunction (suc k) n (c ∷ b) =
        at_byte (LinkReads limit chains.Conjunction n) 33 c b
        (λ e. chain (read_link chains.Conjunction k n b) (λ f more d. read (got (not f) more) (exclamation d))
        (λ s more d. read (stopped s more) (exclamation_stops d)))
        (at_byte (LinkReads limit chains.Conjunction n) 116 c b (λ e. read (got always b) letter_t)
        (at_byte (LinkReads limit chains.Conjunction n) 102 c b (λ e. read (got never b) letter_f)
        (at_byte (LinkReads limit chains.Conjunction n) 35 c b
        (λ e. chain (read_label b) (λ l more d. read (got (labelled l) more) (hash d)) (λ s more d. read (stopped s more) (hash_stops d)))
        (at_byte (LinkReads limit chains.Conjunction n) 123 c b
        (λ e. carry (λ r d. curly d) (in_brackets brackets.Curly refl (λ l. read_chain chains.Filter k (suc n) b)))
        (⊎_elim (λ m. no_steps) (λ m. path_as_term (NotAt.other m) (read_chain chains.Path k n (c ∷ b))) (one_of c term_bytes))))))

    read_atom : (k n : ℕ) (b : Bytes) → Reading (AtomReads limit n b)
    read_atom zero n b = no_steps
    read_atom (suc k) n [] = read (stopped broken []) (no_atom NotAt.ended)
    read_atom (suc k) n (c ∷ b) =
        at_byte (AtomReads limit n) 46 c b (λ e. read (got self b) dot)
        (at_byte (AtomReads limit n) 118 c b (λ e. read (got child b) letter_v)
        (at_byte (AtomReads limit n) 94 c b (λ e. read (got parent b) caret)
        (at_byte (AtomReads limit n) 62 c b (λ e. read (got next b) greater)
        (at_byte (AtomReads limit n) 60 c b (λ e. read (got previous b) less)
        (at_byte (AtomReads limit n) 91 c b
        (λ e.
        chain (in_brackets brackets.Square refl (λ l. read_chain chains.Filter k (suc n) b))
        (λ f more d. read (got (stay f) more) (square d)) (λ s more d. read (stopped s more) (square_stops d)))
        (at_byte (AtomReads limit n) 40 c b
        (λ e. carry (λ r d. round d) (in_brackets brackets.Round refl (λ l. read_chain chains.Path k (suc n) b)))
        (⊎_elim (λ m. no_steps) (λ m. read (stopped broken (c ∷ b)) (no_atom (NotAt.other m))) (one_of c atom_bytes))))))))

-- as many steps as any text of its length takes: nine for an opening bracket, from a path to a term
abbrev steps : Bytes → ℕ
steps text = 9 * length text + 9

-- a path's text, and a filter's, read from the front
unfoldable pub read_text : (limit : ℕ) (text : Bytes) → Reading (ChainReads limit chains.Path 0 text)
unfolding read_chain
read_text limit text = read_chain limit chains.Path (steps text) 0 text

unfoldable pub read_filter : (limit : ℕ) (text : Bytes) → Reading (ChainReads limit chains.Filter 0 text)
unfolding read_chain
read_filter limit text = read_chain limit chains.Filter (steps text) 0 text
