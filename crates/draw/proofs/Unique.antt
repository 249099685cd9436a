-- The line for a text is one line, and what is written for whole lines is one text. Assumes nothing.
use Prim.Native.Nat.{ℕ}
use native.Mathlib.Omega.{arith}
use mathlib.Core.Path.{◌≡◌, refl, sym, ap, ap₂, ◌∙◌, subst}
use mathlib.Core.List.{[], ◌∷◌, ◌++◌, append_assoc, append-nil, Memᴰ}
use lib.ListN.{length, length-append, replicate}
use Rattle.reply.specs.Reply.{refused}
use Rattle.reply.specs.Bytes.{Bytes}
use Rattle.query.specs.Syntax.{Path}
use Rattle.query.specs.Table.{entry_bytes}
use Rattle.text.specs.Written.{table_of}
use Rattle.derivation.proofs.Place.{path_unique}
use Rattle.derivation.proofs.Unique.{text_one, text_wrong}
use Rattle.curator.specs.Promise.{CuratorAnswered}
use Rattle.curator.proofs.Unique.{curator_answered_one}
use Rattle.lines.specs.Line.{line_of}
use Rattle.draw.specs.Drawn.{LineFor, text_refused, answered, Drawn, none, one_more}

-- two lines for one text, with the same files, are equal
module _ (roll annotation filters text : Bytes) where
  pub line_one : {a b : Bytes} → LineFor roll annotation filters text a → LineFor roll annotation filters text b → a ≡ b
  line_one (text_refused {n = n} {p = p} f) (text_refused {n = m} {p = q} g) =
      let (e, e') = text_one text n m p q f g in ap₂ (λ (n p : ℕ). line_of (refused n p) []) e e'
  line_one (text_refused {n = n} {p = p} f) (answered {path} s map t x) = absurd (text_wrong text n p f (path, t))
  line_one (answered {path} s map t x) (text_refused {n = n} {p = p} f) = absurd (text_wrong text n p f (path, t))
  line_one (answered {path} s map t x) (answered {path = path'} s' map' t' y) =
      let same : path' ≡ path = path_unique text path' path t'.path t.path in
      let (e, e') =
      curator_answered_one annotation filters (entry_bytes (table_of path)) roll (replicate 512 0) x
      (subst (λ (p : Path). CuratorAnswered roll annotation filters (entry_bytes (table_of p)) (replicate 512 0) s' map') same y)
      in
      ap₂ line_of e e'

-- bytes have one first line
same_split : (t u r s : Bytes) → ¬ Memᴰ 10 t → ¬ Memᴰ 10 u → t ++ 10 ∷ r ≡ u ++ 10 ∷ s → (t ≡ u) × (r ≡ s)
same_split [] [] r s f g e = (refl, cc)
same_split [] (c ∷ u) r s f g e = absurd (g (Memᴰ.head (cc)))
same_split (c ∷ t) [] r s f g e = let h : c ≡ 10 = cc in absurd (f (Memᴰ.head (sym h)))
same_split (c ∷ t) (d ∷ u) r s f g e =
    let (x, y) = same_split t u r s (λ m. f (Memᴰ.tail m)) (λ m. g (Memᴰ.tail m)) (cc) in
    (ap₂ (λ (c : ℕ) (t : Bytes). c ∷ t) (cc) x, y)

-- what is drawn, from its first line on
data Lines (Line : Bytes → Bytes → Type 0) : Bytes → Bytes → Type 0 where
  no_lines : Lines Line [] []
  line_first : {text line read written : Bytes} → ¬ Memᴰ 10 text → Line text line → Lines Line read written
      → Lines Line (text ++ 10 ∷ read) (line ++ written)

module _ {Line : Bytes → Bytes → Type 0} where
  behind : {read written text line : Bytes} → Lines Line read written → ¬ Memᴰ 10 text → Line text line
      → Lines Line (read ++ text ++ 10 ∷ []) (written ++ line)
  behind {text = text} {line} no_lines f l = subst (Lines Line (text ++ 10 ∷ [])) (append-nil line) (line_first f l no_lines)
  behind {text = text} {line} (line_first {text = t} {line = a} {read = r} {written = w} g k rest) f l =
      subst (λ (b : Bytes). Lines Line b (a ++ w ++ line))
      (sym (ap (λ (b : Bytes). b ++ 10 ∷ []) (append_assoc t (10 ∷ r) text) ∙ append_assoc t (10 ∷ r ++ text) (10 ∷ [])))
      (subst (Lines Line (t ++ 10 ∷ (r ++ text ++ 10 ∷ []))) (sym (append_assoc a w line)) (line_first g k (behind rest f l)))

  from_first : {read written : Bytes} → Drawn Line read written → Lines Line read written
  from_first none = no_lines
  from_first (one_more d f l) = behind (from_first d) f l

  -- where each text has one line, what is written for whole lines is one text
  module _ (one : (text a b : Bytes) → Line text a → Line text b → a ≡ b) where
    lines_one : (x y : Bytes) {v w : Bytes} → x ≡ y → Lines Line x v → Lines Line y w → v ≡ w
    lines_one x y e no_lines no_lines = refl
    lines_one x y e no_lines (line_first {text = t} {read = r} f l rest) = absurd (omega (arith, ap length e, length-append t (10 ∷ r)))
    lines_one x y e (line_first {text = t} {read = r} f l rest) no_lines = absurd (omega (arith, ap length e, length-append t (10 ∷ r)))
    lines_one x y e (line_first {text = t} {line = a} {read = r} f l rest) (line_first {text = u} {line = b} {read = s} g k more) =
        let (same, after) = same_split t u r s f g e in
        ap₂ ◌++◌ (one u a b (subst (λ (z : Bytes). Line z a) same l) k) (lines_one r s after rest more)

    pub drawn_one : {read v w : Bytes} → Drawn Line read v → Drawn Line read w → v ≡ w
    drawn_one {read} d e = lines_one read read refl (from_first d) (from_first e)
