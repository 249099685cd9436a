-- An atom and its stars. Assumes nothing.
use Prim.Native.Nat.{ℕ, ◌+◌, ◌-◌, ◌<◌}
use native.Mathlib.Omega.{arith}
use mathlib.Core.Path.{◌≡◌, subst}
use mathlib.Core.List.{[], ◌∷◌}
use lib.ListN.{length, get_or, drop, length-append}
use Rattle.reply.specs.Bytes.{Bytes}
use Rattle.query.specs.Syntax.{Path, star}
use Rattle.query.specs.Table.{Entries}
use Rattle.text.specs.Written.{path_entries}
use Rattle.derivation.proofs.Rules.{got, NotAt, StarsRead, one_more, no_more, item, item_stops}
use Rattle.tokens.specs.declared.answer.Read.{Read}
use Rattle.std.specs.Prelude.{Ok, Err}
use Rattle.tokens.specs.declared.answer.Stopped.{Stopped}
use Rattle.tokens.specs.Reading.{one, Added, Follows, follows, stops, items, atoms}
use Rattle.tokens.proofs.Entries.{added_on}
use Rattle.tokens.proofs.Places.{here, inside, not_at, none_of, nor}
use Rattle.tokens.proofs.Following.{got_stands}
use Rattle.tokens.proofs.Chains.{Going}

module _ {k : ℕ} {text : Bytes} {at : ℕ} {before : Bytes} {n : ℕ} where
  -- the atom is read
  pub atom_read : {r : Read} {after : Bytes} → Follows atoms k text at before n (Ok r) after
      → Going items StarsRead k text at before n r.at r.count after
  atom_read f = let (x, rd, st) = got_stands f in record { thing = x; goes_on = λ r s. item rd s; stands = st }

  -- the atom is not read
  pub atom_not_read : {z : Stopped} {after : Bytes} → Follows atoms k text at before n (Err z) after
      → Follows items k text at before n (Err z) after
  atom_not_read (stops rd w) = stops (item_stops rd) w

  module _ {next m : ℕ} {mid : Bytes} (going : Going items StarsRead k text at before n next m mid) where
    -- no star: the item is at its end
    pub no_star : (get_or text next 0 ≡ 42 → ⊥) → Follows items k text at before n (Ok (record { at = next; count = m })) mid
    no_star no_byte =
        let off : NotAt (42 ∷ []) (drop next text) = not_at (42 ∷ []) text next (nor no_byte none_of) in
        follows (going.goes_on (got going.thing (drop next text)) (no_more off)) going.stands

    -- one more star
    pub starred : {last : Bytes} → get_or text next 0 ≡ 42 → Added mid m (one 9 0 (m - 1) 0) last
        → Going items StarsRead k text at before n (next + 1) (m + 1) last
    unfolding path_entries
    starred {last = last} e a =
        let x : Path = going.thing in
        let es : Entries = path_entries n x in
        let c : m ≡ n + length es = going.stands.count in
        let d = going.stands.further in
        let f = going.stands.few in
        let g = going.stands.some in
        let i : next < length text = inside text next (omega arith) in
        let own : Added mid m (one 9 0 (n + length es - 1) 0) last = subst (λ (j : ℕ). Added mid m (one 9 0 (j - 1) 0) last) c a in
        let len : length (path_entries n (star x)) ≡ length es + 1 = length-append es (one 9 0 (n + length es - 1) 0) in
        record {
          thing = star x;
          goes_on = λ r s. going.goes_on r (rw (here text next 42 e (omega arith)) (one_more s));
          stands = record {
            further = omega arith;
            some = omega arith;
            within = omega arith;
            count = omega arith;
            few = omega arith;
            table = added_on going.stands.table c own;
          };
        }
