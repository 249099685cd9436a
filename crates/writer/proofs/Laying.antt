-- Entries that are written one behind another. Assumes nothing.
use Prim.Native.Nat.{ℕ, ◌+◌, ◌*◌, ◌≤◌, ◌<◌}
use native.Mathlib.Numerals.{add-one}
use native.Mathlib.Omega.{arith}
use mathlib.Core.Path.{◌≡◌, refl, sym, ap, ◌∙◌}
use mathlib.Core.List.{List, [], ◌∷◌, ◌++◌, map, map-append}
use lib.ListN.{length, get_or, take, length-append, length-map}
use lib.Seq.{take-suc, take_all, length-take-le}
use Rattle.reply.specs.Bytes.{Bytes}
use Rattle.reply.proofs.Stores.{stored_on}
use Rattle.query.specs.Table.{Entry, Entries, entry_bytes}
use Rattle.query.proofs.Bytes.{bytes_length, bytes_of_both}
use Rattle.tables.specs.Laid.{laid}
use Rattle.writer.specs.declared.part.Part.{Part}
use Rattle.writer.specs.Laid.{Lays}

-- entries laid behind entries
pub laid_on : (out : Bytes) (n : ℕ) (es : Entries) {m : ℕ} (fs : Entries) → m ≡ n + length es
    → laid (laid out n es) m fs ≡ laid out n (es ++ fs)
laid_on out n es {m} fs e =
    let behind : 6 * m ≡ 6 * n + length (entry_bytes es) = omega (arith, bytes_length es) in
    rw (behind, bytes_of_both es fs) (stored_on out (6 * n) (entry_bytes es) (entry_bytes fs))

-- the same, of bytes that have a name
pub laid_more : (out : Bytes) (n : ℕ) (es : Entries) {m : ℕ} (fs : Entries) {now next : Bytes} → now ≡ laid out n es → m ≡ n + length es
    → next ≡ laid now m fs → next ≡ laid out n (es ++ fs)
laid_more out n es {m} fs before e after = after ∙ ap (λ (b : Bytes). laid b m fs) before ∙ laid_on out n es fs e

-- nothing is written
pub lays_none : (a : Part) → Lays a [] a
unfolding entry_bytes
lays_none a = record { same = refl; long = refl; end = omega arith; bytes = refl }

-- or entries behind entries
pub lays_then : {a b c : Part} {es fs : Entries} → Lays a es b → Lays b fs c → Lays a (es ++ fs) c
lays_then {a} {es = es} {fs = fs} x y =
    record {
      same = y.same ∙ x.same;
      long = y.long ∙ x.long;
      end = omega (arith, x.end, y.end, length-append es fs);
      bytes = laid_more a.out.now a.at es fs x.bytes x.end y.bytes;
    }

-- Entries that are made one by one from what stands in a list: k of them are written.
module _ {A : Type 0} (f : A → Entry) (es : List A) where
  -- the part has k more
  pub lays_front : {a b : Part} {k : ℕ} → k ≤ length es → Lays a (map f (take k es)) b → b.at ≡ a.at + k
  lays_front {k = k} l x = omega (arith, x.end, length-map (take k es) f, length-take-le k es l)

  -- then one more
  pub lays_next : (d : A) {a b c : Part} {k : ℕ} {e : Entry} → k < length es → Lays a (map f (take k es)) b → e ≡ f (get_or es k d)
      → Lays b (e ∷ []) c → Lays a (map f (take (k + 1) es)) c
  lays_next d {k = k} {e = e} l before same after =
      let longer : map f (take (k + 1) es) ≡ map f (take k es) ++ e ∷ [] =
      ap (map f) (ap (λ (i : ℕ). take i es) (add-one k) ∙ take-suc es k d l) ∙ map-append f (take k es) (get_or es k d ∷ [])
      ∙ ap (λ (x : Entry). map f (take k es) ++ x ∷ []) (sym same) in
      rw longer (lays_then before after)

  -- and at the end all of them
  pub lays_all : {a b : Part} {k : ℕ} → length es ≤ k → Lays a (map f (take k es)) b → Lays a (map f es) b
  lays_all {k = k} l x = rw (take_all k es l) at x
