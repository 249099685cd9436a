-- Of the texts of a path in which no star stands right behind a star none has fewer brackets than the one that is shown, and one with as few
-- is that one. Assumes nothing.
use Prim.Native.Nat.{ℕ, ◌+◌, ◌*◌, ◌/◌, ◌%◌, ◌≤◌, ◌<◌}
use native.Mathlib.Omega.{arith}
use mathlib.Core.Path.{◌≡◌, refl, ap₂}
use mathlib.Core.Logic.{◌⊎◌, inl, inr}
use mathlib.Core.Bool.{Bool, true, false, cond}
use mathlib.Core.List.{[], ◌∷◌, ◌++◌}
use lib.Dec.{T, leb, ltb}
use borrow.Author.Tests.{ltb-true, ltb-false, leb-true, leb-false}
use Rattle.reply.specs.Bytes.{Bytes}
use Rattle.query.specs.Syntax.{Path, Filter}
use Rattle.text.specs.Grammar.{LabelText, one_digit, two_digits, PathText, one_sequence, bar, one_item, slash, an_atom, starred}
use Rattle.text.specs.Grammar.{dot, letter_v, caret, greater, less, square, round, one_conjunction, plus}
use Rattle.text.specs.Grammar.{one_term, ampersand, exclamation, letter_t, letter_f, hash, curly, a_path}
use Rattle.text.specs.Promise.{opening, how_many}
use Rattle.shortest.proofs.Plain.{Plain, EndsInStar, plain_front, plain_behind, plain_parts, plain_inside, starred_open, ends_with}
use Rattle.shortest.proofs.Shown.{path_rank, filter_rank, between, held, path_held, filter_held, label_shown, path_shown, filter_shown}

-- how many brackets open in a text
abbrev pub opens : Bytes → ℕ
opens s = how_many opening s

-- the text is the one given, or has more brackets
abbrev pub Best : Bytes → Bytes → Type 0
Best u s = (u ≡ s) ⊎ (opens s < opens u)

-- it has no fewer
pub no_fewer : {u s : Bytes} → Best u s → opens s ≤ opens u
no_fewer (inl e) = rw e (omega arith)
no_fewer (inr l) = omega arith

-- the bytes of a kind in a text are those in its parts
pub how_many_append : (is : ℕ → Bool) (s u : Bytes) → how_many is (s ++ u) ≡ how_many is s + how_many is u
unfolding how_many
how_many_append is [] u = omega arith
how_many_append is (c ∷ s) u = go (how_many_append is s u) (is c) refl
  where
    go : how_many is (s ++ u) ≡ how_many is s + how_many is u → (x : Bool) → is c ≡ x
        → how_many is (c ∷ s ++ u) ≡ how_many is (c ∷ s) + how_many is u
    go h true e = rw (e, how_many) (omega (arith, h))
    go h false e = rw (e, how_many) (omega (arith, h))

-- so are its brackets
pub opens_append : (s u : Bytes) → opens (s ++ u) ≡ opens s + opens u
opens_append s u = how_many_append opening s u

-- parts that are the best make the best whole
both_best : {s u s' u' : Bytes} → Best s s' → Best u u' → Best (s ++ u) (s' ++ u')
both_best {s} {u} {s'} {u'} (inl e) (inl f) = inl (ap₂ (λ (x y : Bytes). x ++ y) e f)
both_best {s} {u} {s'} {u'} (inl e) (inr l) = inr (rw (opens_append s u, opens_append s' u', e) (omega arith))
both_best {s} {u} {s'} {u'} (inr l) b = let h = no_fewer b in inr (rw (opens_append s u, opens_append s' u') (omega arith))

-- a text before and behind bytes that are no question
ahead : (c : ℕ) {u s : Bytes} → Best u s → Best (c ∷ u) (c ∷ s)
ahead c b = both_best {s = c ∷ []} {s' = c ∷ []} (inl refl) b

joined : (c : ℕ) {s u s' u' : Bytes} → Best s s' → Best u u' → Best (s ++ c ∷ u) (s' ++ c ∷ u')
joined c a b = both_best a (ahead c b)

enclosed : (o c : ℕ) {u s : Bytes} → Best u s → Best (between o c u) (between o c s)
unfolding between
enclosed o c b = ahead o (joined c b (inl refl))

-- Brackets around a text.
module _ (o c : ℕ) (bracket : T (opening o)) where
  -- they are one more
  opens_between : (s : Bytes) → opens s < opens (between o c s)
  unfolding between how_many
  opens_between s = go (opening o) refl
    where
      go : (x : Bool) → opening o ≡ x → opens s < opens (o ∷ s ++ c ∷ [])
      go true e = let h = opens_append s (c ∷ []) in rw (e, how_many) (omega (arith, h))
      go false e = absurd (rw e at bracket)

  -- the best with brackets is the best where none are needed
  bare_cond : (x : Bool) {u : Bytes} (s : Bytes) → Best u (cond x s (between o c s)) → Best u s
  bare_cond true s b = b
  bare_cond false s (inl h) = inr (rw h (opens_between s))
  bare_cond false s (inr h) = let k = opens_between s in inr (omega arith)

  bare : (most rank : ℕ) {u : Bytes} (s : Bytes) → Best u (held o c most rank s) → Best u s
  unfolding held
  bare most rank s b = bare_cond (leb most rank) s b

  -- and where less is asked for
  loosen : {least most : ℕ} → least ≤ most → (rank : ℕ) {u : Bytes} (s : Bytes) → Best u (held o c most rank s)
      → Best u (held o c least rank s)
  unfolding held
  loosen {least} {most} l rank {u} s b = go (leb least rank) (leb most rank) refl refl b
    where
      go : (x y : Bool) → leb least rank ≡ x → leb most rank ≡ y → Best u (cond y s (between o c s)) → Best u (cond x s (between o c s))
      go true y e f b = bare_cond y s b
      go false false e f b = b
      go false true e f b = let h = leb-false least rank e in let k = leb-true most rank f in absurd (omega arith)

  -- brackets that are written are the best there is, or too many
  bracketed : (least rank : ℕ) {u s : Bytes} → Best u s → Best (between o c u) (held o c least rank s)
  unfolding held
  bracketed least rank {u} {s} b = go (leb least rank)
    where
      go : (x : Bool) → Best (between o c u) (cond x s (between o c s))
      go true = let h = no_fewer b in let k = opens_between u in inr (omega arith)
      go false = enclosed o c b

abbrev round_opens : T (opening 40)
unfolding opening
round_opens = tt

abbrev curly_opens : T (opening 123)
unfolding opening
curly_opens = tt

-- a label has one text
pub label_best : {u : Bytes} {l : ℕ} → LabelText u l → u ≡ label_shown l
unfolding label_shown
label_best (one_digit {d = d} a b) = go (ltb d 10) refl
  where
    go : (x : Bool) → ltb d 10 ≡ x → ((48 + d) ∷ []) ≡ cond x ((48 + d) ∷ []) ((48 + d / 10) ∷ (48 + d % 10) ∷ [])
    go true e = refl
    go false e = let h = ltb-false d 10 e in absurd (omega arith)
label_best (two_digits {d = d} {e = e} a b m) = go (10 * d + e) refl (ltb (10 * d + e) 10) refl
  where
    go : (l : ℕ) → l ≡ 10 * d + e → (x : Bool) → ltb l 10 ≡ x
        → ((48 + d) ∷ (48 + e) ∷ []) ≡ cond x ((48 + l) ∷ []) ((48 + l / 10) ∷ (48 + l % 10) ∷ [])
    go l same true q = let h = ltb-true l 10 q in absurd (omega arith)
    go l same false q =
        let ten : d ≡ l / 10 = omega arith in
        let one : e ≡ l % 10 = omega arith in
        ap₂ (λ (x y : ℕ). (48 + x) ∷ (48 + y) ∷ []) ten one

-- what is best for a path of at least a rank, and for a filter
abbrev BestPath : ℕ → Bytes → Path → Type 0
BestPath least u p = Best u (path_held least p (path_shown p))

abbrev BestFilter : ℕ → Bytes → Filter → Type 0
BestFilter least u f = Best u (filter_held least f (filter_shown f))

looser_path : {least most : ℕ} → least ≤ most → (u : Bytes) (p : Path) → BestPath most u p → BestPath least u p
unfolding path_held
looser_path l u p b = loosen 40 41 round_opens l (path_rank p) (path_shown p) b

looser_filter : {least most : ℕ} → least ≤ most → (u : Bytes) (f : Filter) → BestFilter most u f → BestFilter least u f
unfolding filter_held
looser_filter l u f b = loosen 123 125 curly_opens l (filter_rank f) (filter_shown f) b

-- of an item: it may stand before a star if it does not end in one
abbrev BestItem : Bytes → Path → Type 0
BestItem u p = BestPath 2 u p × (¬ EndsInStar u → BestPath 3 u p)

-- by induction over the grammar, all kinds at once, where no star stands right behind a star
pub path_best : {u : Bytes} {p : Path} → PathText u p → Plain u → Best u (path_shown p)
unfolding path_held path_shown path_rank filter_held filter_shown filter_rank held between
path_best x =
    elim x as (λ s p y. Plain s → Best s (path_shown p)) (λ s p y. Plain s → BestPath 1 s p)
    (λ s p y. Plain s → BestItem s p) (λ s p y. Plain s → BestPath 3 s p)
    (λ s f y. Plain s → Best s (filter_shown f)) (λ s f y. Plain s → BestFilter 1 s f) (λ s f y. Plain s → BestFilter 2 s f) [
      | one_sequence {p = p} (x → h) ↦ λ plain. bare 40 41 round_opens 1 (path_rank p) (path_shown p) (h plain)
      | bar {s = s} {u = u} (x → h) (y → k) ↦ λ plain. let (left, right) = plain_parts s 124 u plain in joined 124 (h left) (k right)
      | one_item {s = s} {p = p} (x → h) ↦ λ plain. looser_path (omega arith) s p (h plain).0
      | slash {s = s} {u = u} (x → h) (y → k) ↦ λ plain. let (left, right) = plain_parts s 47 u plain in joined 47 (h left) (k right).0
      | an_atom {s = s} {p = p} (x → h) ↦ λ plain. (looser_path (omega arith) s p (h plain), λ ends. h plain)
      | starred {s = s} (x → h) ↦
          λ plain.
          let item = (h (plain_front s (42 ∷ []) plain)).1 (starred_open s plain) in
          (joined 42 item (inl refl), λ ends. absurd (ends (ends_with s 42)))
      | dot ↦ λ plain. inl refl
      | letter_v ↦ λ plain. inl refl
      | caret ↦ λ plain. inl refl
      | greater ↦ λ plain. inl refl
      | less ↦ λ plain. inl refl
      | square {s = s} (x → h) ↦ λ plain. enclosed 91 93 (h (plain_inside 91 s 93 plain))
      | round {s = s} {p = p} (x → h) ↦ λ plain. bracketed 40 41 round_opens 3 (path_rank p) (h (plain_inside 40 s 41 plain))
      | one_conjunction {f = f} (x → h) ↦ λ plain. bare 123 125 curly_opens 1 (filter_rank f) (filter_shown f) (h plain)
      | plus {s = s} {u = u} (x → h) (y → k) ↦ λ plain. let (left, right) = plain_parts s 43 u plain in joined 43 (h left) (k right)
      | one_term {s = s} {f = f} (x → h) ↦ λ plain. looser_filter (omega arith) s f (h plain)
      | ampersand {s = s} {u = u} (x → h) (y → k) ↦ λ plain. let (left, right) = plain_parts s 38 u plain in joined 38 (h left) (k right)
      | exclamation {s = s} (x → h) ↦ λ plain. ahead 33 (h (plain_behind (33 ∷ []) s plain))
      | letter_t ↦ λ plain. inl refl
      | letter_f ↦ λ plain. inl refl
      | hash x ↦ λ plain. ahead 35 (inl (label_best x))
      | curly {s = s} {f = f} (x → h) ↦ λ plain. bracketed 123 125 curly_opens 2 (filter_rank f) (h (plain_inside 123 s 125 plain))
      | a_path (x → h) ↦ h
    ]
