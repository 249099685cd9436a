-- A node that is written, and what is written in front of a room leaves the rest of it. Assumes nothing.
use Prim.Native.Nat.{ℕ, ◌+◌, ◌-◌, ◌*◌, ◌/◌, ◌%◌, ◌≤◌}
use native.Mathlib.Omega.{arith}
use native.Mathlib.Numerals.{towards_suc}
use mathlib.Core.Path.{◌≡◌, sym, ap, ◌∙◌}
use mathlib.Core.List.{[], ◌∷◌}
use lib.ListN.{length, take, drop, set, take-append-drop}
use lib.Seq.{sets, drop-drop}
use Rattle.reply.specs.Bytes.{Bytes, two_bytes, Written}
use Rattle.reply.proofs.Stores.{stored_front, stored_behind}
use Rattle.tree.specs.Tree.{Tree}
use Rattle.roll.specs.Roll.{node_bytes}
use Rattle.roll.proofs.Back.{node_bytes_length}
use Rattle.std.specs.Borrow.{MutBor}
use Rattle.cutting.specs.declared.Scan.{Scan}
use Rattle.cutting.specs.Scan.{NodePut}
use Rattle.cutting.specs.Passing.{RestKept}

-- label, zero byte and the number behind them are the bytes of a node
pub stored : (room : Bytes) (k label parent : ℕ) {after : Bytes} → 4 * (k + 1) ≤ length room
    → after ≡ sets (set (set room (4 * k) label) (4 * k + 1) 0) (4 * k + 2) (two_bytes parent)
    → NodePut k (record { label = label; parent = parent }) room after
unfolding node_bytes two_bytes
stored room k label parent h written =
    let end : 4 * (k + 1) ≡ 4 * k + 4 = omega arith in
    let fits : 4 * k + 4 ≤ length room = omega arith in
    let bytes : Bytes = label ∷ 0 ∷ parent % 256 ∷ parent / 256 % 256 ∷ [] in
    record {
      front = rw (end, written) (simp towards_suc (simp towards_suc at (stored_front room (4 * k) bytes fits)));
      behind = rw (end, written) (simp towards_suc (simp towards_suc at (stored_behind room (4 * k) bytes fits)));
    }

-- a table in front of a room is written there
pub written_front : (before after : Bytes) (v : Tree) (c : ℕ) → c ≡ length v → 4 * c ≤ length before → take (4 * c) after ≡ node_bytes v
    → drop (4 * c) after ≡ drop (4 * c) before → Written before (node_bytes v) after
written_front before after v c count fits front behind =
    let size : length (node_bytes v) ≡ 4 * c = omega (arith, node_bytes_length v) in
    record { room = omega arith; bytes = rw size (rw (← front, ← behind) (sym (take-append-drop (4 * c) after))) }

-- what is the same from a byte on is the same from any later byte on
pub same_behind : (a b : Bytes) (m n : ℕ) → m ≤ n → drop m a ≡ drop m b → drop n a ≡ drop n b
same_behind a b m n l e =
    let later : m + (n - m) ≡ n = omega arith in
    rw (← later, ← drop-drop (n - m) m a, ← drop-drop (n - m) m b) (ap (drop (n - m)) e)

-- one record more leaves the rest as it is
pub rest_more : {lent : MutBor Bytes} {s t : Scan} → RestKept lent s → RestKept s.room t → s.written ≤ t.written → RestKept lent t
rest_more {s = s} {t} x y grown = record {
  same = y.same ∙ x.same;
  long = y.long ∙ x.long;
  behind = y.behind ∙ same_behind _ _ (4 * s.written) (4 * t.written) (omega arith) x.behind;
}
