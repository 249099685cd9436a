-- How calls come out, whose promise leaves one way. Assumes nothing.
use Prim.Native.Nat.{ℕ, ◌≤◌, ◌<◌}
use native.Mathlib.Omega.{arith}
use mathlib.Core.Path.{◌≡◌, refl, sym, ap, ◌∙◌, subst}
use mathlib.Core.Logic.Iff
use mathlib.Core.Logic.{◌↔◌}
use mathlib.Core.List.{List, ◌++◌, Memᴰ}
use lib.ListN.{length, drop}
use Rattle.reply.specs.Reply.{Said, count}
use Rattle.reply.specs.Bytes.{Bytes, Written}
use Rattle.reply.specs.Outcome.{done, turned_away}
use Rattle.tree.specs.Tree.{Tree, InOrder}
use Rattle.query.specs.Syntax.{Path}
use Rattle.query.specs.Table.{entries, entry_bytes, query_of}
use Rattle.query.specs.Meaning.{reach}
use Rattle.query.specs.Fault.{curators, Query}
use Rattle.text.specs.Written.{table_of}
use Rattle.text.specs.Promise.{TextOf, TextFault, TextRead}
use Rattle.derivation.proofs.Back.{table_back, query_back}
use Rattle.query.proofs.Bytes.{bytes_length}
use Rattle.derivation.proofs.Accepted.{text_query}
use Rattle.derivation.proofs.Unique.{text_read_one}
use Rattle.answer.specs.Bitmap.{Bitmap, SetGiven}
use Rattle.sets.specs.Bits.{ones}
use Rattle.answer.proofs.Drawn.{drawn, drawn_right}
use Rattle.cases.specs.Cases.{ComesOut, InFront, Drawn, Answers}
use Rattle.cases.proofs.Tests.{is_in, is_in_lem}

-- a promise that leaves one way
abbrev pub OneWay : (Bytes → Said → Bytes → Type 0) → Type 0
OneWay Call = (before : Bytes) (s u : Said) (x y : Bytes) → Call before s x → Call before u y → (s ≡ u) × (x ≡ y)

-- a call that comes out in one way, and can come out so
pub comes_out : {room : ℕ} {Call : Bytes → Said → Bytes → Type 0} {said : Said} (Left : Bytes → Bytes → Type 0)
    → OneWay Call → ((before : Bytes) → room ≤ length before → (after : Bytes) × Call before said after × Left before after)
    → ComesOut room Call said Left
comes_out Left one can = record {
  some = λ before l. let (after, fits, left) = can before l in (after, fits);
  only = λ before l fits.
      let (after, fits', left) = can before l in
      let (same, room) = one before _ _ _ _ fits fits' in
      (same, subst (Left before) (sym room) left);
}

-- what is written in front of the room
pub front : (before x : Bytes) → length x ≤ length before → Written before x (x ++ drop (length x) before)
front before x l = record { room = l; bytes = refl }

module _ {text : Bytes} where
  -- call 2 gives the table of a text that is one of a path
  pub table_given : {p : Path} → TextOf p text
      → ComesOut 1536 (TextRead text) (count (length (table_of p))) (InFront (entry_bytes (table_of p)))
  unfolding TextRead
  table_given {p} t =
      comes_out (InFront (entry_bytes (table_of p))) (λ before s u x y. text_read_one text before) (λ before l.
      let few = t.fits.few in
      let written = front before (entry_bytes (table_of p)) (omega (arith, bytes_length (table_of p))) in
      (_, done l (p, t) (record { path = p; text_of = t; count = refl; written = written }), written))

  -- and refuses a text with a fault
  pub text_refused : {n i : ℕ} → TextFault text n i → ComesOut 1536 (TextRead text) (Said.refused n i) (λ before after. after ≡ before)
  unfolding TextRead
  text_refused f =
      comes_out (λ before after. after ≡ before) (λ before s u x y. text_read_one text before) (λ before l. (before, turned_away l f, refl))

-- the bitmap of the nodes listed
unfoldable pub bitmap_of : List ℕ → Bytes
unfolding drawn is_in
bitmap_of ks = drawn (is_in ks) 0 512

-- it is a bitmap of each set of just these nodes
pub bitmap_of_lem : {Set : ℕ → Type 0} (ks : List ℕ) → ((k : ℕ) → Set k ↔ Memᴰ k ks) → Bitmap Set (bitmap_of ks)
unfolding bitmap_of
bitmap_of_lem ks same =
    let map = drawn_right (is_in ks) in
    record {
      size = map.size;
      bytes = map.bytes;
      ones = λ k l. Iff.trans (map.ones k l) (Iff.trans (is_in_lem ks k).exact (Iff.symm (same k)));
    }

-- so the set may be given with it, and with the count of its ones
pub set_given : {Set : ℕ → Type 0} (ks : List ℕ) → ((k : ℕ) → Set k ↔ Memᴰ k ks) → length ks ≡ ones (bitmap_of ks)
    → (before : Bytes) → 512 ≤ length before → SetGiven Set before (length ks) (bitmap_of ks ++ drop (length (bitmap_of ks)) before)
set_given ks same e before l =
    let is = bitmap_of_lem ks same in
    record { map = bitmap_of ks; is = is; count = e; written = front before (bitmap_of ks) (omega (arith, is.size)) }

-- the query that a text's table holds is the text's path
pub query_of_lem : {text : Bytes} {p : Path} → TextOf p text → query_of (entries (entry_bytes (table_of p))) ≡ p
query_of_lem {p = p} t = let few = t.fits.few in ap query_of (table_back p (omega arith)) ∙ query_back p

-- A call that answers a curator's queries on one tree.
pub record Asked (On : Tree → Type 0) (Call : Bytes → Bytes → Said → Bytes → Type 0) (t : Tree) : Type 0 where
  pub order : InOrder t
  pub root : 0 < length t
  pub only : (v : Tree) → On v → t ≡ v
  pub one : (query : Bytes) → OneWay (Call query)
  pub gives : {query before after : Bytes} {c : ℕ} → Query curators query → 512 ≤ length before
      → SetGiven (reach t (query_of (entries query)) 0) before c after → Call query before (count c) after

-- such a call on the table of a text, where the text's path reaches just the nodes listed
pub answers : {On : Tree → Type 0} {Call : Bytes → Bytes → Said → Bytes → Type 0} {t : Tree} {text : Bytes} {p : Path} (ks : List ℕ)
    → Asked On Call t → TextOf p text → ((k : ℕ) → reach t p 0 k ↔ Memᴰ k ks) → length ks ≡ ones (bitmap_of ks)
    → Answers On Call text ks
answers {On} {Call} {t} {p = p} ks asked of reaches size =
    let query : Bytes = entry_bytes (table_of p) in
    let listed : (k : ℕ) → reach t (query_of (entries query)) 0 k ↔ Memᴰ k ks =
    λ k. subst (λ (q : Path). reach t q 0 k ↔ Memᴰ k ks) (sym (query_of_lem of)) (reaches k) in
    record {
      path = p;
      text_of = of;
      reaches = λ v on k. subst (λ (v : Tree). reach v p 0 k ↔ Memᴰ k ks) (asked.only v on) (reaches k);
      read = table_given of;
      given = comes_out (Drawn ks) (asked.one query) (λ before l.
          (_, asked.gives (text_query of) l (set_given ks listed size before l), set_given ks (λ k. Iff.rfl) size before l));
    }
