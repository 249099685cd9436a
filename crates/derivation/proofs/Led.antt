-- Where the rules of reading come to a result, the machine comes to a state that takes just what may stand behind it. Assumes nothing.
use Prim.Native.Nat.{ℕ, suc, ◌+◌, ◌-◌, ◌*◌, ◌≤◌, ◌<◌}
use native.Mathlib.Nat.{zero-add}
use native.Mathlib.Omega.{arith}
use mathlib.Core.Path.{◌≡◌, refl, ap, ◌∙◌}
use mathlib.Core.List.Memᴰ
use mathlib.Core.List.{List, [], ◌∷◌}
use lib.Dec.{T}
use Rattle.reply.specs.Bytes.{Bytes}
use Rattle.query.specs.Syntax.{Path, Filter}
use Rattle.query.specs.Syntax as syntax
use Rattle.text.specs.Promise.{opening}
use Rattle.derivation.specs.declared.Chain.{Chain}
use Rattle.derivation.specs.declared.Bracket.{Bracket}
use Rattle.derivation.specs.Parts.{Joined, join, inside, opening_byte}
use Rattle.derivation.proofs.Rules.{NotAt, other, NoSecond, NoDigit, term_bytes, Stop, broken, deep, Result, got, stopped}
use Rattle.derivation.proofs.Rules.{LabelReads, one_digit, two_digits, no_digit, StarsRead, one_more, no_more}
use Rattle.derivation.proofs.Rules.{ChainReads, starts, start_stops, GoesOn, joined, joined_stops}
use Rattle.derivation.proofs.Rules.{LinkReads, sequence, item, item_stops, conjunction, exclamation, exclamation_stops}
use Rattle.derivation.proofs.Rules.{letter_t, letter_f, hash, hash_stops, curly, a_path, a_path_stops}
use Rattle.derivation.proofs.Rules.{AtomReads, dot, letter_v, caret, greater, less, square, square_stops, round, no_atom}
use Rattle.derivation.proofs.Rules.{BracketReads, closed, stays_open, inside_stops, too_deep}
use Rattle.derivation.proofs.Rules as rules
use Rattle.derivation.proofs.NextByte.{unequal, equal, digit_opens_nothing}
use Rattle.derivation.proofs.Machine as machine
use Rattle.derivation.proofs.Machine.{PathPlace, FilterPlace, in_filter, State, label, Offers, nothing, on, digit, Digit, dec_digit}
use Rattle.derivation.proofs.Machine.{look, goes, offer}
use Rattle.derivation.proofs.Machine.{ons, bytes, atoms, terms, depth, path_depth, Moves, stays, moves, behind_term, behind_item}
use Rattle.derivation.proofs.Around.{Around, wanted, behind_chain, behind_link, around_depth, Holder, held, outside, shut}
use Rattle.derivation.proofs.Around.{joint_opens_nothing, bracket_opens, opened, one_deeper, closes, close_opens_nothing}

-- What a state takes is what is offered, as far as the next byte tells, and at the end of a text.
pub record Here (σ : State) (offers : Offers) (b : Bytes) : Type 0 where
  pub now : look (offer σ) b ≡ look offers b
  pub at_end : look (offer σ) [] ≡ look offers []

-- Where the machine comes to if reading comes to a result.
pub data Led {A : Type 0} (limit : ℕ) (σ : State) (b : Bytes) (behind : A → Offers) : Result A → Type 0 where
  led : {τ : State} {x : A} {more : Bytes} → Moves limit σ b τ more → Here τ (behind x) more → Led limit σ b behind (got x more)
  broke : {τ : State} {more : Bytes} → Moves limit σ b τ more → Here τ nothing more → Led limit σ b behind (stopped broken more)
  deepened : {τ ω : State} {c : ℕ} {more : Bytes} → Moves limit σ b τ (c ∷ more) → look (offer τ) (c ∷ more) ≡ goes ω → T (opening c)
      → limit ≤ depth τ → Led limit σ b behind (stopped deep (c ∷ more))

-- a byte that is not next is passed over
skip : {c : ℕ} {these : List ℕ} {b : Bytes} (σ : State) (o : Offers) → NotAt (c ∷ these) b → look (on c σ o) b ≡ look o b
skip σ o rules.ended = refl
skip σ o (other h) = rw (unequal (λ e. h (Memᴰ.head e)), look)

-- the byte that is offered first is taken
taken : {c d : ℕ} (σ : State) (o : Offers) (b : Bytes) → c ≡ d → look (on d σ o) (c ∷ b) ≡ goes σ
taken {d = d} σ o b e = rw (e, equal d, look)

-- of fewer bytes, none is next either
not_at_rest : {c : ℕ} {these : List ℕ} {b : Bytes} → NotAt (c ∷ these) b → NotAt these b
not_at_rest rules.ended = rules.ended
not_at_rest (other h) = other (λ m. h (Memᴰ.tail m))

-- all that are not next are passed over
skip_all : {b : Bytes} (l : List (ℕ × State)) (o : Offers) → NotAt (bytes l) b → look (ons l o) b ≡ look o b
skip_all [] o h = refl
skip_all (x ∷ l) o h = skip x.1 (ons l o) h ∙ skip_all l o (not_at_rest h)

-- a digit that makes a label is taken
digit_taken : (l e : ℕ) (b : Bytes) (f : ℕ → State) (o : Offers) → e ≤ 9 → 1 ≤ 10 * l + e → 10 * l + e ≤ 64
    → look (digit l f o) ((48 + e) ∷ b) ≡ goes (f (10 * l + e))
digit_taken l e b f o h k m = go (dec_digit l (48 + e)) refl
  where
    value : 48 + e - 48 ≡ e
    value = omega arith

    go : (x : Dec (Digit l (48 + e))) → dec_digit l (48 + e) ≡ x → look (digit l f o) ((48 + e) ∷ b) ≡ goes (f (10 * l + e))
    go (yes y) q = rw (q, look, value)
    go (no n) q = absurd (n (record { least = omega arith; most = omega arith; some = rw value k; label = rw value m }))

-- and opens no bracket
quiet : {A : Type 0} (e : ℕ) → e ≤ 9 → T (opening (48 + e)) → A
quiet e h t = absurd (rw (digit_opens_nothing {c = 48 + e} (omega arith) (omega arith)) at t)

-- the next byte is no digit that makes a label with l
data NoDigitOf (l : ℕ) : Bytes → Type 0 where
  ended : NoDigitOf l []
  none : {c : ℕ} {b : Bytes} → ¬ Digit l c → NoDigitOf l (c ∷ b)

-- and is passed over then
digit_skipped : {l : ℕ} {b : Bytes} (f : ℕ → State) (o : Offers) → NoDigitOf l b → look (digit l f o) b ≡ look o b
digit_skipped f o ended = refl
digit_skipped {l} f o (none {c = c} {b = b} h) = go (dec_digit l c) refl
  where
    go : (x : Dec (Digit l c)) → dec_digit l c ≡ x → look (digit l f o) (c ∷ b) ≡ look o (c ∷ b)
    go (yes y) q = absurd (h y)
    go (no n) q = rw (q, look)

-- a byte that begins no label
first_digit : {b : Bytes} → NoDigit b → NoDigitOf 0 b
first_digit rules.ended = ended
first_digit (rules.too_low {c = c} l) = none (λ (d : Digit 0 c). omega arith)
first_digit (rules.too_high {c = c} l) = none (λ (d : Digit 0 c). omega arith)

-- a byte that makes no label of two digits
second_digit : {l : ℕ} {b : Bytes} → NoSecond l b → NoDigitOf l b
second_digit rules.ended = ended
second_digit {l} (rules.too_low {c = c} h) = none (λ (d : Digit l c). omega arith)
second_digit {l} (rules.too_high {c = c} h) = none (λ (d : Digit l c). omega arith)
second_digit {l} (rules.too_large {e = e} h m) = none (λ (d : Digit l (48 + e)). omega arith)

-- no label has three digits
third_digit : {l : ℕ} → 7 ≤ l → (b : Bytes) → NoDigitOf l b
third_digit h [] = ended
third_digit {l} h (c ∷ b) = none (λ (d : Digit l c). omega arith)

-- a state takes what it offers
here : {σ : State} {b : Bytes} → Here σ (offer σ) b
here = record { now = refl; at_end = refl }

-- The state τ takes at b what σ takes there.
record TakesAs (σ τ : State) (b : Bytes) : Type 0 where
  takes : Here τ (offer σ) b
  depths : depth τ ≡ depth σ

-- and so what is offered there
taking : {σ τ : State} {o : Offers} {b : Bytes} → TakesAs σ τ b → Here σ o b → Here τ o b
taking s h = record { now = s.takes.now ∙ h.now; at_end = s.takes.at_end ∙ h.at_end }

-- without a byte that is not next
passed : {τ σ : State} {c : ℕ} {o : Offers} {b : Bytes} → NotAt (c ∷ []) b → Here τ (on c σ o) b → Here τ o b
passed {σ = σ} {o = o} h k = record { now = k.now ∙ skip σ o h; at_end = k.at_end }

module _ {limit : ℕ} where
  -- moves behind moves
  onwards : {σ τ ω : State} {b c d : Bytes} → Moves limit σ b τ c → Moves limit τ c ω d → Moves limit σ b ω d
  onwards stays y = y
  onwards (moves e l x) y = moves e l (onwards x y)

  -- a move from a state that takes the same
  instead : {σ τ ω υ : State} {c : ℕ} {b more : Bytes} → TakesAs σ τ (c ∷ b) → look (offer σ) (c ∷ b) ≡ goes ω
      → (T (opening c) → depth σ < limit) → Moves limit ω b υ more
      → Moves limit τ (c ∷ b) υ more
  instead {τ = τ} s e l y = moves {σ = τ} (s.takes.now ∙ e) (λ o. rw s.depths (l o)) y

  module _ {A : Type 0} {behind : A → Offers} where
    -- a result behind some moves
    moved : {σ τ : State} {b more : Bytes} {r : Result A} → Moves limit σ b τ more → Led limit τ more behind r → Led limit σ b behind r
    moved x (led y h) = led (onwards x y) h
    moved x (broke y h) = broke (onwards x y) h
    moved x (deepened y e o l) = deepened (onwards x y) e o l

    -- a result behind one byte
    first : {σ τ : State} {c : ℕ} {b : Bytes} {r : Result A} → look (offer σ) (c ∷ b) ≡ goes τ → (T (opening c) → depth σ < limit)
        → Led limit τ b behind r → Led limit σ (c ∷ b) behind r
    first e l x = moved (moves e l stays) x

    -- two states that take the same
    alike : {σ τ : State} {b : Bytes} {r : Result A} → TakesAs σ τ b → Led limit σ b behind r → Led limit τ b behind r
    alike s (led stays h) = led stays (taking s h)
    alike s (led (moves e l y) h) = led (instead s e l y) h
    alike s (broke stays h) = broke stays (taking s h)
    alike s (broke (moves e l y) h) = broke (instead s e l y) h
    alike {τ = τ} s (deepened stays e o l) = deepened {τ = τ} stays (s.takes.now ∙ e) o (rw s.depths l)
    alike s (deepened (moves e l y) f o m) = deepened (instead s e l y) f o m

  module _ {A B : Type 0} {behind : A → Offers} {further : B → Offers} where
    -- something is got, and reading goes on from there
    further_on : {σ : State} {b more : Bytes} {x : A} {r : Result B} → Led limit σ b behind (got x more)
        → ((τ : State) → Here τ (behind x) more → Led limit τ more further r) → Led limit σ b further r
    further_on (led {τ = τ} y h) f = moved y (f τ h)

    -- a stop is a stop of what is around it
    stop : {σ : State} {b more : Bytes} {s : Stop} → Led limit σ b behind (stopped s more) → Led limit σ b further (stopped s more)
    stop (broke y h) = broke y h
    stop (deepened y e o l) = deepened y e o l

  -- a label's digits lead behind the term
  led_label : {b : Bytes} {r : Result ℕ} → LabelReads b r → (o a : Filter → Filter) (F : FilterPlace)
      → Led limit (machine.hash o a F) b (λ l. behind_term o F (a (syntax.labelled l))) r
  led_label (one_digit {d = d} {b = b} l h s) o a F =
      let taken = digit_taken 0 d b (λ l. label l o a F) nothing h (omega arith) (omega arith) in
      led (moves (rw zero-add at taken) (quiet d h) stays)
      (record { now = digit_skipped (λ m. label m o a F) (behind_term o F (a (syntax.labelled d))) (second_digit s); at_end = refl })
  led_label (two_digits {d = d} {e = e} {b = b} l h m) o a F =
      let taken = digit_taken 0 d ((48 + e) ∷ b) (λ l. label l o a F) nothing (omega arith) (omega arith) (omega arith) in
      let taken_too = digit_taken d e b (λ l. label l o a F) (behind_term o F (a (syntax.labelled d))) h (omega arith) m in
      led (moves (rw zero-add at taken) (quiet d (omega arith)) (moves taken_too (quiet e h) stays))
      (record {
        now = digit_skipped (λ m. label m o a F) (behind_term o F (a (syntax.labelled (10 * d + e)))) (third_digit (omega arith) b);
        at_end = refl;
      })
  led_label (no_digit h) o a F = broke stays (record { now = digit_skipped (λ l. label l o a F) nothing (first_digit h); at_end = refl })

  -- stars behind an item
  led_stars : {p : Path} {b : Bytes} {r : Result Path} → StarsRead p b r → (e t : Path → Path) (P : PathPlace) (σ : State)
      → Here σ (offer (machine.item_read e t P p)) b
      → Led limit σ b (λ q. behind_item e P (t q)) r
  unfolding opening
  led_stars (one_more x) e t P σ h = first h.now absurd (led_stars x e t P _ here)
  led_stars (no_more k) e t P σ h = led stays (passed k h)

  -- a path that is a term is read as a path
  as_term : {b : Bytes} {r : Result Path} {behind : Path → Offers} (o a : Filter → Filter) (F : FilterPlace) → NotAt term_bytes b
      → Led limit (machine.item (λ p. p) (λ p. p) (in_filter o a F)) b behind r → Led limit (machine.term o a F) b behind r
  as_term o a F k x =
      let same = skip_all (terms o a F) (ons (atoms (λ p. p) (λ p. p) (in_filter o a F)) nothing) k in
      alike (record { takes = record { now = same; at_end = refl }; depths = refl }) x

  module _ {A : Type 0} {behind : A → Offers} {r : Result A} {b : Bytes} where
    -- a result behind a byte that is offered first, and opens no bracket
    offered : {σ τ : State} {c d : ℕ} {o : Offers} → c ≡ d → ¬ T (opening d) → Here σ (on d τ o) (c ∷ b) → Led limit τ b behind r
        → Led limit σ (c ∷ b) behind r
    offered {τ = τ} {o = o} e quiet h y = first (h.now ∙ taken τ o b e) (λ t. absurd (quiet (rw e at t))) y

    -- a result behind the byte that opens a bracket, where one may be opened
    entered : (k : Bracket) (h : Holder k) {o : ℕ} → o ≡ opening_byte k → depth (outside k h) < limit
        → Led limit (wanted (inside k) (held k h) (λ x. x)) b behind r → Led limit (outside k h) (o ∷ b) behind r
    entered k h e l y = first (rw e (opened k h b)) (λ t. l) y

  -- Each kind of rule leads the machine from where its kind is wanted to where what is got stands read.
  mutual
    unfolding opening

    pub led_chain : {c : Chain} {n : ℕ} {b : Bytes} {r : Result (Joined c)} → ChainReads limit c n b r → (a : Around c)
        → around_depth c a ≡ n
        → Led limit (wanted c a (λ x. x)) b (behind_chain c a) r
    led_chain (starts {c = c} x y) a d = further_on (led_link x a (λ x. x) d) (λ σ h. led_on y a d σ h)
    led_chain (start_stops x) a d = stop (led_link x a (λ x. x) d)

    led_on : {c : Chain} {n : ℕ} {x : Joined c} {b : Bytes} {r : Result (Joined c)} → GoesOn limit c n x b r → (a : Around c)
        → around_depth c a ≡ n
        → (σ : State) → Here σ (behind_link c a x) b → Led limit σ b (behind_chain c a) r
    led_on (joined {c = c} {x = x} e y z) a d σ h =
        offered e (joint_opens_nothing c) h (further_on (led_link y a (λ q. join c x q) d) (λ τ k. led_on z a d τ k))
    led_on (joined_stops {c = c} {x = x} e y) a d σ h = offered e (joint_opens_nothing c) h (stop (led_link y a (λ q. join c x q) d))
    led_on (rules.ends k) a d σ h = led stays (passed k h)

    led_link : {c : Chain} {n : ℕ} {b : Bytes} {r : Result (Joined c)} → LinkReads limit c n b r → (a : Around c) (f : Joined c → Joined c)
        → around_depth c a ≡ n → Led limit (wanted c a f) b (λ x. behind_link c a (f x)) r
    led_link (sequence x) P f d = led_chain x (f, P) d
    led_link (item x y) a f d = further_on (led_atom x a.0 f a.1 d) (λ σ h. led_stars y a.0 f a.1 σ h)
    led_link (item_stops x) a f d = stop (led_atom x a.0 f a.1 d)
    led_link (conjunction x) F f d = led_chain x (f, F) d
    led_link (exclamation x) a f d = first refl absurd (further_on (led_link x a (λ g. f (syntax.not g)) d) (λ σ h. led stays h))
    led_link (exclamation_stops x) a f d = first refl absurd (stop (led_link x a (λ g. f (syntax.not g)) d))
    led_link letter_t a f d = first refl absurd (led stays here)
    led_link letter_f a f d = first refl absurd (led stays here)
    led_link (hash x) a f d = first refl absurd (further_on (led_label x a.0 f a.1) (λ σ h. led stays h))
    led_link (hash_stops x) a f d = first refl absurd (stop (led_label x a.0 f a.1))
    led_link (curly x) a f d = led_bracket x (a.0, f, a.1) d
    led_link (a_path k x) a f d = further_on (as_term a.0 f a.1 k (led_chain x (in_filter a.0 f a.1) d)) (λ σ h. led stays h)
    led_link (a_path_stops k x) a f d = stop (as_term a.0 f a.1 k (led_chain x (in_filter a.0 f a.1) d))

    led_atom : {n : ℕ} {b : Bytes} {r : Result Path} → AtomReads limit n b r → (e t : Path → Path) (P : PathPlace) → path_depth P ≡ n
        → Led limit (machine.item e t P) b (λ p. offer (machine.item_read e t P p)) r
    led_atom dot e t P d = first refl absurd (led stays here)
    led_atom letter_v e t P d = first refl absurd (led stays here)
    led_atom caret e t P d = first refl absurd (led stays here)
    led_atom greater e t P d = first refl absurd (led stays here)
    led_atom less e t P d = first refl absurd (led stays here)
    led_atom (square x) e t P d = further_on (led_bracket x (e, t, P) d) (λ σ h. led stays h)
    led_atom (square_stops x) e t P d = stop (led_bracket x (e, t, P) d)
    led_atom (round x) e t P d = led_bracket x (e, t, P) d
    led_atom (no_atom h) e t P d = broke stays (record { now = skip_all (atoms e t P) nothing h; at_end = refl })

    led_bracket : {k : Bracket} {n : ℕ} {b : Bytes} {r : Result (Joined (inside k))} → BracketReads limit k n b r → (h : Holder k)
        → depth (outside k h) ≡ n → Led limit (outside k h) b (λ x. offer (shut k h x)) r
    led_bracket (closed {k = k} e l x f) h d =
        entered k h e (rw d l)
        (further_on (led_chain x (held k h) (one_deeper k h ∙ ap suc d))
        (λ σ i. offered f (close_opens_nothing k) (rw (closes k h) at i) (led stays here)))
    led_bracket (stays_open {k = k} e l x j) h d =
        entered k h e (rw d l)
        (further_on (led_chain x (held k h) (one_deeper k h ∙ ap suc d)) (λ σ i. broke stays (passed j (rw (closes k h) at i))))
    led_bracket (inside_stops {k = k} e l x) h d = entered k h e (rw d l) (stop (led_chain x (held k h) (one_deeper k h ∙ ap suc d)))
    led_bracket (too_deep {k = k} {b = b} e l) h d =
        deepened {ω = wanted (inside k) (held k h) (λ x. x)} stays (rw e (opened k h b)) (rw e (bracket_opens k)) (rw d l)
