-- What is shown for a path is a text of it, where its labels are labels. Assumes nothing.
use Prim.Native.Nat.{ℕ, zero, suc, ◌+◌, ◌*◌, ◌/◌, ◌%◌, ◌≤◌}
use native.Mathlib.Omega.{arith}
use mathlib.Core.Path.{◌≡◌, refl, subst}
use mathlib.Core.Logic.{inl, inr}
use mathlib.Core.Bool.{Bool, true, false, cond}
use mathlib.Core.List.{[], ◌∷◌}
use lib.Dec.{leb, ltb}
use borrow.Author.Tests.{ltb-true, ltb-false, leb-true, leb-false}
use Rattle.reply.specs.Bytes.{Bytes}
use Rattle.tree.specs.Tree.{Label}
use Rattle.query.specs.Syntax.{Path, self, child, parent, next, previous, stay, then, either, star}
use Rattle.query.specs.Syntax.{Filter, labelled, leads, always, never, not, and, or}
use Rattle.text.specs.Grammar as grammar
use Rattle.text.specs.Grammar.{LabelText, PathText, SequenceText, ItemText, AtomText, FilterText, ConjunctionText, TermText}
use Rattle.text.specs.Print.{Fewest}
use Rattle.derivation.proofs.Ordered.{label_read}
use Rattle.shortest.proofs.Shown.{path_rank, filter_rank, between, held, path_held, filter_held, label_shown, path_shown, filter_shown}
use Rattle.shortest.proofs.Plain.{Plain, EndsInStar, plain_nothing, plain_byte, plain_both, plain_joined, plain_between, plain_held, ends_with}
use Rattle.shortest.proofs.Best.{Best, path_best, no_fewer}

-- each label in a path, and in a filter, is a label
abbrev mutual
  pub PathLabels : Path → Type 0
  PathLabels self = Unit {0}
  PathLabels child = Unit {0}
  PathLabels parent = Unit {0}
  PathLabels next = Unit {0}
  PathLabels previous = Unit {0}
  PathLabels (stay f) = FilterLabels f
  PathLabels (then p q) = PathLabels p × PathLabels q
  PathLabels (either p q) = PathLabels p × PathLabels q
  PathLabels (star p) = PathLabels p

  pub FilterLabels : Filter → Type 0
  FilterLabels (labelled l) = Label l
  FilterLabels (leads p) = PathLabels p
  FilterLabels always = Unit {0}
  FilterLabels never = Unit {0}
  FilterLabels (not f) = FilterLabels f
  FilterLabels (and f g) = FilterLabels f × FilterLabels g
  FilterLabels (or f g) = FilterLabels f × FilterLabels g

-- so it is where the path has a text
text_labels : {s : Bytes} {p : Path} → PathText s p → PathLabels p
text_labels x =
    elim x as (λ s p y. PathLabels p) (λ s p y. PathLabels p) (λ s p y. PathLabels p) (λ s p y. PathLabels p)
    (λ s f y. FilterLabels f) (λ s f y. FilterLabels f) (λ s f y. FilterLabels f) [
      | grammar.one_sequence (x → h) ↦ h
      | grammar.bar (x → h) (y → k) ↦ (h, k)
      | grammar.one_item (x → h) ↦ h
      | grammar.slash (x → h) (y → k) ↦ (h, k)
      | grammar.an_atom (x → h) ↦ h
      | grammar.starred (x → h) ↦ h
      | grammar.dot ↦ tt
      | grammar.letter_v ↦ tt
      | grammar.caret ↦ tt
      | grammar.greater ↦ tt
      | grammar.less ↦ tt
      | grammar.square (x → h) ↦ h
      | grammar.round (x → h) ↦ h
      | grammar.one_conjunction (x → h) ↦ h
      | grammar.plus (x → h) (y → k) ↦ (h, k)
      | grammar.one_term (x → h) ↦ h
      | grammar.ampersand (x → h) (y → k) ↦ (h, k)
      | grammar.exclamation (x → h) ↦ h
      | grammar.letter_t ↦ tt
      | grammar.letter_f ↦ tt
      | grammar.hash x ↦ label_read x
      | grammar.curly (x → h) ↦ h
      | grammar.a_path (x → h) ↦ h
    ]

-- a label's text
label_text : (l : ℕ) → Label l → LabelText (label_shown l) l
unfolding label_shown
label_text l h = go (ltb l 10) refl
  where
    go : (x : Bool) → ltb l 10 ≡ x → LabelText (cond x ((48 + l) ∷ []) ((48 + l / 10) ∷ (48 + l % 10) ∷ [])) l
    go true e = let low = ltb-true l 10 e in grammar.one_digit h.least (omega arith)
    go false e =
        let high = ltb-false l 10 e in
        let two : LabelText ((48 + l / 10) ∷ (48 + l % 10) ∷ []) (10 * (l / 10) + l % 10) =
        grammar.two_digits {d = l / 10} {e = l % 10} (omega arith) (omega arith) (omega (arith, h.most)) in
        subst (λ (n : ℕ). LabelText ((48 + l / 10) ∷ (48 + l % 10) ∷ []) n) (omega arith) two

-- Kinds of texts, the tightest last: a text of one is one of those before it, and brackets make the tightest of the loosest.
module _ (X : ℕ → Bytes → Type 0) (looser : (rank : ℕ) (s : Bytes) → X (suc rank) s → X rank s) where
  eased : (least rank : ℕ) → least ≤ rank → (s : Bytes) → X rank s → X least s
  eased least zero l s x = subst (λ (n : ℕ). X n s) (omega arith) x
  eased least (suc rank) l s x = go (eased least rank) (leb least rank) refl
    where
      go : (least ≤ rank → (s : Bytes) → X rank s → X least s) → (y : Bool) → leb least rank ≡ y → X least s
      go more true e = more (leb-true least rank e) s (looser rank s x)
      go more false e = let h = leb-false least rank e in subst (λ (n : ℕ). X n s) (omega arith) x

  held_text : (o c top : ℕ) → ((s : Bytes) → X 0 s → X top (between o c s)) → (least rank : ℕ) → least ≤ top → (s : Bytes) → X rank s
      → X least (held o c least rank s)
  unfolding held
  held_text o c top brackets least rank l s x = go (leb least rank) refl
    where
      go : (y : Bool) → leb least rank ≡ y → X least (cond y s (between o c s))
      go true e = eased least rank (leb-true least rank e) s x
      go false e = eased least top l _ (brackets s (eased 0 rank (omega arith) s x))

-- the texts of a path, by rank
abbrev PathAt : Path → ℕ → Bytes → Type 0
PathAt p zero s = PathText s p
PathAt p (suc zero) s = SequenceText s p
PathAt p (suc (suc zero)) s = ItemText s p
PathAt p (suc (suc (suc n))) s = AtomText s p

eased_path : (p : Path) (rank : ℕ) (s : Bytes) → PathAt p (suc rank) s → PathAt p rank s
eased_path p zero s x = grammar.one_sequence x
eased_path p (suc zero) s x = grammar.one_item x
eased_path p (suc (suc zero)) s x = grammar.an_atom x
eased_path p (suc (suc (suc n))) s x = x

-- and of a filter
abbrev FilterAt : Filter → ℕ → Bytes → Type 0
FilterAt f zero s = FilterText s f
FilterAt f (suc zero) s = ConjunctionText s f
FilterAt f (suc (suc n)) s = TermText s f

eased_filter : (f : Filter) (rank : ℕ) (s : Bytes) → FilterAt f (suc rank) s → FilterAt f rank s
eased_filter f zero s x = grammar.one_conjunction x
eased_filter f (suc zero) s x = grammar.one_term x
eased_filter f (suc (suc n)) s x = x

-- with brackets where they are needed, and with none
module _ (p : Path) (x : PathAt p (path_rank p) (path_shown p)) where
  path_held_lem : (least : ℕ) → least ≤ 3 → PathAt p least (path_held least p (path_shown p))
  unfolding path_held between
  path_held_lem least l = held_text (PathAt p) (eased_path p) 40 41 3 (λ s y. grammar.round y) least (path_rank p) l (path_shown p) x

  path_bare : PathText (path_shown p) p
  path_bare = eased (PathAt p) (eased_path p) 0 (path_rank p) (omega arith) (path_shown p) x

module _ (f : Filter) (x : FilterAt f (filter_rank f) (filter_shown f)) where
  filter_held_lem : (least : ℕ) → least ≤ 2 → FilterAt f least (filter_held least f (filter_shown f))
  unfolding filter_held between
  filter_held_lem least l = held_text (FilterAt f) (eased_filter f) 123 125 2 (λ s y. grammar.curly y) least (filter_rank f) l (filter_shown f) x

  filter_bare : FilterText (filter_shown f) f
  filter_bare = eased (FilterAt f) (eased_filter f) 0 (filter_rank f) (omega arith) (filter_shown f) x

-- what is shown is a text of its rank
mutual
  unfolding path_shown filter_shown path_rank filter_rank between

  path_text : (p : Path) → PathLabels p → PathAt p (path_rank p) (path_shown p)
  path_text self h = grammar.dot
  path_text child h = grammar.letter_v
  path_text parent h = grammar.caret
  path_text next h = grammar.greater
  path_text previous h = grammar.less
  path_text (stay f) h = grammar.square (filter_bare f (filter_text f h))
  path_text (then p q) h =
      grammar.slash (path_held_lem p (path_text p h.0) 1 (omega arith)) (path_held_lem q (path_text q h.1) 2 (omega arith))
  path_text (either p q) h =
      grammar.bar (path_bare p (path_text p h.0)) (path_held_lem q (path_text q h.1) 1 (omega arith))
  path_text (star p) h = grammar.starred (grammar.an_atom (path_held_lem p (path_text p h) 3 (omega arith)))

  filter_text : (f : Filter) → FilterLabels f → FilterAt f (filter_rank f) (filter_shown f)
  filter_text (labelled l) h = grammar.hash (label_text l h)
  filter_text (leads p) h = grammar.a_path (path_bare p (path_text p h))
  filter_text always h = grammar.letter_t
  filter_text never h = grammar.letter_f
  filter_text (not f) h = grammar.exclamation (filter_held_lem f (filter_text f h) 2 (omega arith))
  filter_text (and f g) h =
      grammar.ampersand (filter_held_lem f (filter_text f h.0) 1 (omega arith)) (filter_held_lem g (filter_text g h.1) 2 (omega arith))
  filter_text (or f g) h =
      grammar.plus (filter_bare f (filter_text f h.0)) (filter_held_lem g (filter_text g h.1) 1 (omega arith))

-- An operand of a star, in brackets unless it is an atom, does not end in a star.
atom_ends : (p : Path) (s : Bytes) → s ≡ path_shown p → ¬ EndsInStar (path_held 3 p s)
unfolding path_held path_rank held between path_shown
atom_ends self s e f = omega (arith, rw e at f)
atom_ends child s e f = omega (arith, rw e at f)
atom_ends parent s e f = omega (arith, rw e at f)
atom_ends next s e f = omega (arith, rw e at f)
atom_ends previous s e f = omega (arith, rw e at f)
atom_ends (stay g) s e f = omega (arith, rw e at f, ends_with (91 ∷ filter_shown g) 93)
atom_ends (then p q) s e f = omega (arith, f, ends_with (40 ∷ s) 41)
atom_ends (either p q) s e f = omega (arith, f, ends_with (40 ∷ s) 41)
atom_ends (star p) s e f = omega (arith, f, ends_with (40 ∷ s) 41)

-- no star stands right behind a star in what is shown
path_plain_held : (least : ℕ) (p : Path) → Plain (path_shown p) → Plain (path_held least p (path_shown p))
unfolding path_held
path_plain_held least p plain = plain_held 40 41 (λ e. omega arith) (λ e. omega arith) least (path_rank p) plain

filter_plain_held : (least : ℕ) (f : Filter) → Plain (filter_shown f) → Plain (filter_held least f (filter_shown f))
unfolding filter_held
filter_plain_held least f plain = plain_held 123 125 (λ e. omega arith) (λ e. omega arith) least (filter_rank f) plain

label_plain : (l : ℕ) → Plain (label_shown l)
unfolding label_shown
label_plain l = go (ltb l 10)
  where
    go : (x : Bool) → Plain (cond x ((48 + l) ∷ []) ((48 + l / 10) ∷ (48 + l % 10) ∷ []))
    go true = plain_byte (48 + l)
    go false = plain_joined [] (48 + l / 10) ((48 + l % 10) ∷ []) (λ e. omega arith) plain_nothing (plain_byte (48 + l % 10))

mutual
  unfolding path_shown filter_shown

  path_plain : (p : Path) → Plain (path_shown p)
  path_plain self = plain_byte 46
  path_plain child = plain_byte 118
  path_plain parent = plain_byte 94
  path_plain next = plain_byte 62
  path_plain previous = plain_byte 60
  path_plain (stay f) = plain_between 91 93 (λ e. omega arith) (λ e. omega arith) (filter_plain f)
  path_plain (then p q) = plain_joined _ 47 _ (λ e. omega arith) (path_plain_held 1 p (path_plain p)) (path_plain_held 2 q (path_plain q))
  path_plain (either p q) = plain_joined _ 124 _ (λ e. omega arith) (path_plain p) (path_plain_held 1 q (path_plain q))
  path_plain (star p) =
      plain_both _ (42 ∷ []) (path_plain_held 3 p (path_plain p)) (plain_byte 42) (λ e f. atom_ends p (path_shown p) refl e)

  filter_plain : (f : Filter) → Plain (filter_shown f)
  filter_plain (labelled l) = plain_joined [] 35 (label_shown l) (λ e. omega arith) plain_nothing (label_plain l)
  filter_plain (leads p) = path_plain p
  filter_plain always = plain_byte 116
  filter_plain never = plain_byte 102
  filter_plain (not f) = plain_joined [] 33 _ (λ e. omega arith) plain_nothing (filter_plain_held 2 f (filter_plain f))
  filter_plain (and f g) = plain_joined _ 38 _ (λ e. omega arith) (filter_plain_held 1 f (filter_plain f)) (filter_plain_held 2 g (filter_plain g))
  filter_plain (or f g) = plain_joined _ 43 _ (λ e. omega arith) (filter_plain f) (filter_plain_held 1 g (filter_plain g))

-- A path with labels has a text with the fewest brackets,
pub shown_fewest : (p : Path) → PathLabels p → Fewest p (path_shown p)
shown_fewest p h =
    record {
      of = record { text_of = path_bare p (path_text p h); plain = path_plain p };
      fewest = λ other x. no_fewer (path_best x.text_of x.plain);
    }

-- and every path has at most one.
pub fewest_shown : {p : Path} {s : Bytes} → Fewest p s → s ≡ path_shown p
fewest_shown {p} {s} x = go (path_best x.of.text_of x.of.plain)
  where
    go : Best s (path_shown p) → s ≡ path_shown p
    go (inl e) = e
    go (inr l) = let k = x.fewest (path_shown p) (shown_fewest p (text_labels x.of.text_of)).of in absurd (omega arith)
