-- The height of a path and of a filter, and that no entry of a path's table is higher than the path. Assumes nothing.
use Prim.Native.Nat.{ℕ, suc, ◌+◌, ◌-◌, ◌≤◌, ◌<◌, max}
use native.Mathlib.Decide.{dec_lt}
use native.Mathlib.Omega.{arith}
use mathlib.Core.Path.{◌≡◌, refl, subst}
use mathlib.Core.List.{List, [], ◌∷◌, ◌++◌}
use lib.ListN.{length, get_or, length-append}
use lib.Seq.{get_or_at}
use Rattle.query.specs.Kind.{find, kinds}
use Rattle.query.specs.Syntax.{Path, self, child, parent, next, previous, stay, then, either, star}
use Rattle.query.specs.Syntax.{Filter, labelled, leads, always, never, not, and, or}
use Rattle.query.specs.Table.{Entry, Entries, read_on, operand_height, height, height_at}
use Rattle.query.proofs.Tables.{read_length, read_append, read_keeps}
use Rattle.text.specs.Written.{path_entries, filter_entries, table_of}

unfoldable mutual
  -- "1 without operands, otherwise 1 plus the greatest height of its operands"
  pub path_height : Path → ℕ
  path_height self = 1
  path_height child = 1
  path_height parent = 1
  path_height next = 1
  path_height previous = 1
  path_height (stay f) = suc (filter_height f)
  path_height (then p q) = suc (max (path_height p) (path_height q))
  path_height (either p q) = suc (max (path_height p) (path_height q))
  path_height (star p) = suc (path_height p)

  pub filter_height : Filter → ℕ
  filter_height (labelled l) = 1
  filter_height (leads p) = suc (path_height p)
  filter_height always = 1
  filter_height never = 1
  filter_height (not f) = suc (filter_height f)
  filter_height (and f g) = suc (max (filter_height f) (filter_height g))
  filter_height (or f g) = suc (max (filter_height f) (filter_height g))

-- Read behind others, there are some of these entries, and each is at most h high.
record Low (before : List ℕ) (es : Entries) (h : ℕ) : Type 0 where
  some : 1 ≤ length es
  each : (i : ℕ) → length before ≤ i → i < length before + length es → get_or (read_on height before es) i 0 ≤ h

-- an entry
low_entry : (before : List ℕ) (e : Entry) {h : ℕ} → height before e ≤ h → Low before (e ∷ []) h
unfolding read_on
low_entry before e {h} l =
    record {
      some = omega arith;
      each = λ i a b. rw (get_or_at before (height before e) [] 0 i (omega arith)) l;
    }

-- entries, and more of them behind
low_both : {before : List ℕ} {es more : Entries} {a h : ℕ} → a ≤ h → Low before es a → Low (read_on height before es) more h
    → Low before (es ++ more) h
low_both {before} {es} {more} {h = h} p x y =
    record {
      some = omega (arith, x.some, length-append es more);
      each = λ i l m. rw (read_append height before es more) (at i l m (dec_lt i (length before + length es)));
    }
  where
    size : length (read_on height before es) ≡ length before + length es
    size = read_length height before es

    at : (i : ℕ) → length before ≤ i → i < length before + length (es ++ more) → Dec (i < length before + length es)
        → get_or (read_on height (read_on height before es) more) i 0 ≤ h
    at i l m (yes front) =
        rw (read_keeps height (read_on height before es) more i 0 (omega (arith, size))) (omega (arith, x.each i l front))
    at i l m (no behind) = omega (arith, y.each i (omega (arith, size)) (omega (arith, size, length-append es more)))

-- the last of them, as an operand
low_last : {before : List ℕ} {es : Entries} {h : ℕ} → Low before es h → get_or (read_on height before es) (length before + length es - 1) 0 ≤ h
low_last {before} {es} x = let some = x.some in x.each (length before + length es - 1) (omega arith) (omega arith)

-- Behind any entries, what is written for x is at most h high.
abbrev LowAs : {A : Type 0} → (ℕ → A → Entries) → A → ℕ → Type 0
LowAs written x h = (before : List ℕ) → Low before (written (length before) x) h

module _ {A : Type 0} (written : ℕ → A → Entries) (kind : ℕ) where
  -- an entry behind its operand
  behind_one : (x : A) {h : ℕ}
      → ((hs : List ℕ) (l : ℕ) → height hs (record { kind = kind; label = 0; left = l; right = 0 }) ≡ suc (max (get_or hs l 0) 0))
      → LowAs written x h → (before : List ℕ)
      → let es : Entries = written (length before) x in
      Low before (es ++ record { kind = kind; label = 0; left = length before + length es - 1; right = 0 } ∷ []) (suc h)
  behind_one x {h} high low before =
      let es : Entries = written (length before) x in
      low_both (omega arith) (low before) (low_entry (read_on height before es) _ (rw high (omega (arith, low_last (low before)))))

  -- behind two operands
  behind_two : (x y : A) {h k : ℕ}
      → ((hs : List ℕ) (l r : ℕ)
      → height hs (record { kind = kind; label = 0; left = l; right = r }) ≡ suc (max (get_or hs l 0) (get_or hs r 0)))
      → LowAs written x h → LowAs written y k → (before : List ℕ)
      → let es : Entries = written (length before) x in
      let m : ℕ = length before + length es in
      let fs : Entries = written m y in
      Low before (es ++ (fs ++ record { kind = kind; label = 0; left = m - 1; right = m + length fs - 1 } ∷ [])) (suc (max h k))
  behind_two x y {h} {k} high low low' before =
      let es : Entries = written (length before) x in
      let m : ℕ = length before + length es in
      let fs : Entries = written m y in
      let hs : List ℕ = read_on height before es in
      let size : length hs ≡ m = read_length height before es in
      let second : Low hs fs k = subst (λ (n : ℕ). Low hs (written n y) k) size (low' hs) in
      let left : get_or (read_on height hs fs) (m - 1) 0 ≤ h =
      rw (read_keeps height hs fs (m - 1) 0 (omega (arith, (low before).some))) (low_last (low before)) in
      let right : get_or (read_on height hs fs) (m + length fs - 1) 0 ≤ k = rw size at (low_last second) in
      low_both (omega arith) (low before) (low_both (omega arith) second (low_entry (read_on height hs fs) _ (rw high (omega arith))))

-- by induction over paths and filters
mutual
  unfolding path_height filter_height path_entries height find kinds operand_height

  path_low : (p : Path) → LowAs path_entries p (path_height p)
  path_low self = λ before. low_entry before _ (omega arith)
  path_low child = λ before. low_entry before _ (omega arith)
  path_low parent = λ before. low_entry before _ (omega arith)
  path_low next = λ before. low_entry before _ (omega arith)
  path_low previous = λ before. low_entry before _ (omega arith)
  path_low (stay f) = behind_one filter_entries 6 f (λ hs l. refl) (filter_low f)
  path_low (then p q) = behind_two path_entries 7 p q (λ hs l r. refl) (path_low p) (path_low q)
  path_low (either p q) = behind_two path_entries 8 p q (λ hs l r. refl) (path_low p) (path_low q)
  path_low (star p) = behind_one path_entries 9 p (λ hs l. refl) (path_low p)

  filter_low : (f : Filter) → LowAs filter_entries f (filter_height f)
  filter_low (labelled l) = λ before. low_entry before _ (omega arith)
  filter_low (leads p) = behind_one path_entries 17 p (λ hs l. refl) (path_low p)
  filter_low always = λ before. low_entry before _ (omega arith)
  filter_low never = λ before. low_entry before _ (omega arith)
  filter_low (not f) = behind_one filter_entries 20 f (λ hs l. refl) (filter_low f)
  filter_low (and f g) = behind_two filter_entries 21 f g (λ hs l r. refl) (filter_low f) (filter_low g)
  filter_low (or f g) = behind_two filter_entries 22 f g (λ hs l r. refl) (filter_low f) (filter_low g)

-- No entry of a path's table is higher than the path.
pub table_low : (p : Path) (i : ℕ) → i < length (table_of p) → height_at (table_of p) i ≤ path_height p
unfolding table_of height_at
table_low p i l = (path_low p []).each i (omega arith) (omega arith)
