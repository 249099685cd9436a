-- What the machine passes over: its bytes, and the brackets among them. Assumes nothing.
use Prim.Native.Nat.{ℕ, zero, suc, ◌+◌, ◌-◌, ◌*◌, ◌≤◌, ◌<◌}
use native.Mathlib.Nat.{le_refl}
use native.Mathlib.Omega.{arith}
use mathlib.Core.Path.{◌≡◌, refl, ap, ◌∙◌}
use mathlib.Core.Bool.{Bool, true, false}
use mathlib.Core.List.{[], ◌∷◌, ◌++◌}
use lib.Dec.{T, eqb, eqb→eq}
use lib.ListN.{length, get_or, take}
use Rattle.reply.specs.Bytes.{Bytes}
use Rattle.query.specs.Syntax.{Path, Filter, labelled}
use Rattle.text.specs.Promise.{opening, closing, how_many}
use Rattle.text.specs.Grammar.{PathText}
use Rattle.derivation.proofs.Rules.{got}
use Rattle.derivation.proofs.Complete.{text_read}
use Rattle.derivation.proofs.NextByte.{digit_opens_nothing, digit_closes_nothing}
use Rattle.derivation.proofs.Machine.{PathPlace, top, in_round, in_filter, FilterPlace, in_square, in_curly, State, start, item}
use Rattle.derivation.proofs.Machine.{item_read, term, term_read, hash, label, Offers, nothing, ends, on, digit, Digit, dec_digit, Next}
use Rattle.derivation.proofs.Machine.{stuck, goes, finished, look, ons, atoms, offer, depth, path_depth, filter_depth, Moves, stays}
use Rattle.derivation.proofs.Machine.{moves}
use Rattle.derivation.proofs.Machine.{behind_filter, behind_term, behind_path}
use Rattle.derivation.proofs.Led.{Led, led, led_chain}

-- how many brackets a byte opens
abbrev opens : ℕ → ℕ
opens c = how_many opening (c ∷ [])

-- and closes
abbrev closes : ℕ → ℕ
closes c = how_many closing (c ∷ [])

-- with d brackets open, each offer leads to as many as are open behind its byte
abbrev Balanced : ℕ → Offers → Type 0
Balanced d nothing = Unit {0}
Balanced d (ends p) = Unit {0}
Balanced d (on c σ rest) = (opens c + d ≡ closes c + depth σ) × Balanced d rest
Balanced d (digit l f rest) = ((m : ℕ) → depth (f m) ≡ d) × Balanced d rest

-- what stands behind a filter, a term and a path is balanced, and so are the atoms and all that a state offers
behind_filter_balanced : (F : FilterPlace) (f : Filter) → Balanced (filter_depth F) (behind_filter F f)
unfolding how_many opening closing
behind_filter_balanced (in_square e t P) f = (omega arith, tt)
behind_filter_balanced (in_curly o a F) f = (omega arith, tt)

behind_term_balanced : (o : Filter → Filter) (F : FilterPlace) (f : Filter) → Balanced (filter_depth F) (behind_term o F f)
unfolding how_many opening closing
behind_term_balanced o F f = (refl, (refl, behind_filter_balanced F (o f)))

behind_path_balanced : (P : PathPlace) (p : Path) → Balanced (path_depth P) (behind_path P p)
unfolding how_many opening closing
behind_path_balanced top p = tt
behind_path_balanced (in_round e t P) p = (omega arith, tt)
behind_path_balanced (in_filter o a F) p = behind_term_balanced o F _

atoms_balanced : (e t : Path → Path) (P : PathPlace) → Balanced (path_depth P) (ons (atoms e t P) nothing)
unfolding how_many opening closing
atoms_balanced e t P = (refl, (refl, (refl, (refl, (refl, (omega arith, (omega arith, tt)))))))

offers_balanced : (σ : State) → Balanced (depth σ) (offer σ)
unfolding how_many opening closing
offers_balanced (item e t P) = atoms_balanced e t P
offers_balanced (item_read e t P p) = (refl, (refl, (refl, behind_path_balanced P (e (t p)))))
offers_balanced (term o a F) = (refl, (refl, (refl, (refl, (omega arith, atoms_balanced (λ p. p) (λ p. p) (in_filter o a F))))))
offers_balanced (term_read o F f) = behind_term_balanced o F f
offers_balanced (hash o a F) = ((λ m. refl), tt)
offers_balanced (label l o a F) = ((λ m. refl), behind_term_balanced o F (a (labelled l)))

-- how a byte counts
weight : (is : ℕ → Bool) (c : ℕ) {x : Bool} → is c ≡ x → how_many is (c ∷ []) ≡ elim x [ true ↦ 1 | false ↦ 0 ]
unfolding how_many
weight is c e = rw (e, how_many)

-- bytes count one by one
how_many_cons : (is : ℕ → Bool) (c : ℕ) (b : Bytes) → how_many is (c ∷ b) ≡ how_many is (c ∷ []) + how_many is b
unfolding how_many
how_many_cons is c b = go (is c) refl
  where
    go : (x : Bool) → is c ≡ x → how_many is (c ∷ b) ≡ how_many is (c ∷ []) + how_many is b
    go true e = rw (e, how_many) (omega arith)
    go false e = rw (e, how_many) (omega arith)

-- how many brackets are open behind a byte
depth_at : Next → ℕ
depth_at stuck = 0
depth_at (goes σ) = depth σ
depth_at (finished p) = 0

-- two states that a byte leads to are one
same_depth : {σ τ : State} → goes σ ≡ goes τ → depth σ ≡ depth τ
unfolding depth_at
same_depth e = ap depth_at e

-- a move leads to as many open brackets as its byte says
module _ (c d : ℕ) (b : Bytes) (τ : State) where
  look_balanced : (o : Offers) → Balanced d o → look o (c ∷ b) ≡ goes τ → opens c + d ≡ closes c + depth τ
  look_balanced nothing h e = let z : ◌≡◌ {A = ℕ} 0 1 = cc in absurd (omega arith)
  look_balanced (ends p) h e = let z : ◌≡◌ {A = ℕ} 0 1 = cc in absurd (omega arith)
  look_balanced (on x σ rest) h e = go (look_balanced rest h.1) (eqb c x) refl
    where
      go : (look rest (c ∷ b) ≡ goes τ → opens c + d ≡ closes c + depth τ) → (y : Bool) → eqb c x ≡ y → opens c + d ≡ closes c + depth τ
      go more true q = rw (← same_depth (rw (q, look) at e), eqb→eq c x (rw q tt)) h.0
      go more false q = more (rw (q, look) at e)
  look_balanced (digit l f rest) h e = go (look_balanced rest h.1) (dec_digit l c) refl
    where
      go : (look rest (c ∷ b) ≡ goes τ → opens c + d ≡ closes c + depth τ) → (y : Dec (Digit l c)) → dec_digit l c ≡ y
          → opens c + d ≡ closes c + depth τ
      go more (yes y) q =
          rw (← same_depth (rw (q, look) at e), h.0, weight opening c (digit_opens_nothing y.least y.most), weight closing c (digit_closes_nothing y.least y.most))
      go more (no n) q = more (rw (q, look) at e)

-- What the machine passes over from one state to another.
pub record Front (limit : ℕ) (σ : State) (b : Bytes) (τ : State) (more : Bytes) : Type 0 where
  pub front : Bytes
  pub splits : b ≡ front ++ more
  -- the same bytes lead there before any others
  pub again : (rest : Bytes) → Moves limit σ (front ++ rest) τ rest
  pub balanced : how_many opening front + depth σ ≡ how_many closing front + depth τ
  -- no bracket is opened in it while `limit` are open
  pub shallow : (k : ℕ) → k < length front → T (opening (get_or front k 0))
      → how_many opening (take k front) + depth σ < how_many closing (take k front) + limit
  pub low : depth σ ≤ limit → depth τ ≤ limit

-- the bytes behind the next one do not matter
pub look_ahead : (o : Offers) (c : ℕ) (b rest : Bytes) → look o (c ∷ b) ≡ look o (c ∷ rest)
look_ahead nothing c b rest = refl
look_ahead (ends p) c b rest = refl
look_ahead (on d σ o) c b rest = ap (λ (n : Next). elim (eqb c d) [ true ↦ goes σ | false ↦ n ]) (look_ahead o c b rest)
look_ahead (digit l f o) c b rest =
    ap (λ (n : Next). elim (dec_digit l c) [ yes h ↦ goes (f (10 * l + (c - 48))) | no h ↦ n ]) (look_ahead o c b rest)

-- no more than `limit` brackets are open behind a byte that opens none, or opens one while there is room
rises : (c : ℕ) {d e limit : ℕ} → opens c + d ≡ closes c + e → (T (opening c) → d < limit) → d ≤ limit → e ≤ limit
rises c {d} {e} {limit} h l m = go (opening c) refl
  where
    go : (x : Bool) → opening c ≡ x → e ≤ limit
    go true q = let room : d < limit = l (rw q tt) in omega (arith, weight opening c q)
    go false q = omega (arith, weight opening c q)

-- every run of moves passes over such bytes
pub passes : {limit : ℕ} {σ τ : State} {b more : Bytes} → Moves limit σ b τ more → Front limit σ b τ more
unfolding how_many
passes {limit} {σ} stays =
    record { front = []; splits = refl; again = λ rest. stays; balanced = refl; shallow = λ k l t. absurd (omega arith); low = λ h. h }
passes {limit} {σ} (moves {τ = τ} {ω = ω} {c = c} {b = b} {more = more} e l x) = go (passes x)
  where
    step : opens c + depth σ ≡ closes c + depth τ
    step = look_balanced c (depth σ) b τ (offer σ) (offers_balanced σ) e

    go : Front limit τ b ω more → Front limit σ (c ∷ b) ω more
    go f =
        record {
          front = c ∷ f.front;
          splits = ap (λ (l : Bytes). c ∷ l) f.splits;
          again = λ rest. moves (look_ahead (offer σ) c (f.front ++ rest) b ∙ e) l (f.again rest);
          balanced = omega (arith, step, f.balanced, how_many_cons opening c f.front, how_many_cons closing c f.front);
          shallow = room;
          low = λ h. f.low (rises c step l h);
        }
      where
        room : (k : ℕ) → k < suc (length f.front) → T (opening (get_or (c ∷ f.front) k 0))
            → how_many opening (take k (c ∷ f.front)) + depth σ < how_many closing (take k (c ∷ f.front)) + limit
        room zero m t = let h : depth σ < limit = l t in omega arith
        room (suc k) m t =
            let h = f.shallow k (omega arith) t in
            omega (arith, how_many_cons opening c (take k f.front), how_many_cons closing c (take k f.front), step, h)

-- The machine goes to the end of a text of the grammar, and finds its path.
pub record Reached (s : Bytes) (p : Path) : Type 0 where
  pub state : State
  pub path : Moves (length s) start s state []
  pub found : look (offer state) [] ≡ finished p

-- since the rules read the text, and lead the machine
pub text_led : {s : Bytes} {p : Path} → PathText s p → Reached s p
text_led {s} {p} x = go (led_chain (text_read (length s) (le_refl (length s)) x) top refl)
  where
    go : Led (length s) start s (behind_path top) (got p []) → Reached s p
    go (led {τ = τ} m h) = record { state = τ; path = m; found = h.now }
