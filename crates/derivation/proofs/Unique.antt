-- A text has at most one fault, and none if it is a text of a path: two replies that fit call 2 are equal. Assumes nothing.
use Prim.Native.Nat.{ℕ, ◌≤◌, ◌<◌}
use native.Mathlib.Omega.{arith}
use mathlib.Core.Path.{◌≡◌, refl, sym, ap, ◌∙◌}
use mathlib.Core.Logic.{◌⊎◌, inl, inr}
use lib.ListN.{length}
use Rattle.reply.specs.Reply.{Said}
use Rattle.reply.specs.Bytes.{Bytes}
use Rattle.reply.proofs.Unique.{OneFault, Wrong, outcome_one, written_one}
use Rattle.query.specs.Syntax.{Path}
use Rattle.query.specs.Table.{entry_bytes}
use Rattle.text.specs.Written.{table_of}
use Rattle.text.specs.Promise.{FirstMistake, Faultless, TextFault, bad_length, mistaken, too_large, TextOf, TableGiven, TextRead}
use Rattle.derivation.proofs.Place.{path_unique}

module _ (text : Bytes) where
  -- the first mistake is one
  first_one : {n m i k : ℕ} → FirstMistake text n i → FirstMistake text m k → (n ≡ m) × (i ≡ k)
  first_one {n} {m} {i} {k} a b = go (a.first m k b.is) (b.first n i a.is)
    where
      go : (i < k) ⊎ ((i ≡ k) × (n ≤ m)) → (k < i) ⊎ ((k ≡ i) × (m ≤ n)) → (n ≡ m) × (i ≡ k)
      go (inl l) (inl h) = absurd (omega arith)
      go (inl l) (inr (e, h)) = absurd (omega arith)
      go (inr (e, l)) (inl h) = absurd (omega arith)
      go (inr (e, l)) (inr (f, h)) = (omega arith, e)

  -- a text has at most one fault
  pub text_one : OneFault (TextFault text)
  unfolding Faultless
  text_one n m p q (bad_length l) (bad_length l') = (refl, refl)
  text_one n m p q (bad_length l) (mistaken r x) = absurd (l r)
  text_one n m p q (bad_length l) (too_large r x s f) = absurd (l r)
  text_one n m p q (mistaken r x) (bad_length l) = absurd (l r)
  text_one n m p q (mistaken r x) (mistaken r' y) = first_one x y
  text_one n m p q (mistaken r x) (too_large r' y s f) = absurd (s n p x.is)
  text_one n m p q (too_large r x s f) (bad_length l) = absurd (l r)
  text_one n m p q (too_large r x s f) (mistaken r' y) = absurd (s m q y.is)
  text_one n m p q (too_large r x s f) (too_large r' x' s' f') = (refl, refl)

  -- a text with a fault is no text of a path
  pub text_wrong : Wrong ((p : Path) × TextOf p text) (TextFault text)
  unfolding Faultless
  text_wrong n i (bad_length l) (p, t) = l t.length
  text_wrong n i (mistaken r x) (p, t) = t.faultless n i x.is
  text_wrong n i (too_large {p = q} r x s f) (p, t) =
      f (rw (path_unique text p q t.path x) at t.fits)

  -- call 2 says one thing, and leaves one room
  pub text_read_one : (before : Bytes) {x y : Bytes} {s u : Said} → TextRead text before s x → TextRead text before u y → (s ≡ u) × (x ≡ y)
  unfolding TextRead
  text_read_one before a b = outcome_one text_wrong text_one (λ right. same) a b
    where
      same : (c d : ℕ) (x y : Bytes) → TableGiven text before c x → TableGiven text before d y → (c ≡ d) × (x ≡ y)
      same c d x y g h =
          let path : g.path ≡ h.path = path_unique text g.path h.path g.text_of.path h.text_of.path in
          let bytes : entry_bytes (table_of g.path) ≡ entry_bytes (table_of h.path) = ap (λ (p : Path). entry_bytes (table_of p)) path in
          let number : length (table_of g.path) ≡ length (table_of h.path) = ap (λ (p : Path). length (table_of p)) path in
          (g.count ∙ number ∙ sym h.count, written_one g.written h.written bytes)
