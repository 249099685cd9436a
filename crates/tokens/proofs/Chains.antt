-- Links that are joined in turn, grouping to the left: so much of a chain is read, and one more link or its end follows. Assumes nothing.
use Prim.Native.Nat.{ℕ, ◌+◌, ◌-◌, ◌<◌}
use native.Mathlib.Omega.{arith}
use mathlib.Core.Path.{◌≡◌, refl, sym, ap, ◌∙◌, subst}
use mathlib.Core.List.{[], ◌∷◌, ◌++◌}
use lib.ListN.{length, get_or, drop, length-append}
use Rattle.reply.specs.Bytes.{Bytes}
use Rattle.query.specs.Table.{Entries}
use Rattle.text.specs.Written.{path_entries}
use Rattle.derivation.specs.declared.Chain.{Chain}
use Rattle.derivation.specs.declared.Chain.TheVariants as chain
use Rattle.derivation.specs.Parts.{Joined, join, joining}
use Rattle.derivation.proofs.Rules.{Result, got, stopped, NotAt, GoesOn, starts, start_stops, joined, joined_stops, ends}
use Rattle.tokens.specs.declared.answer.Read.{Read}
use Rattle.std.specs.Prelude.{Ok, Err}
use Rattle.tokens.specs.declared.answer.Stopped.{Stopped}
use Rattle.tokens.specs.Reading.{Line, one, Added, Entered, Follows, follows, stops, most_open, joined_entries, joined_kind, chains}
use Rattle.tokens.specs.Reading.{links, why, stop_place}
use Rattle.tokens.proofs.Entries.{added_on}
use Rattle.tokens.proofs.Places.{here, not_at, none_of, nor}
use Rattle.tokens.proofs.Following.{got_stands}

-- A thing is read from `at` up to `next`, and what follows may add to it.
pub record Going (line : Line) (more : line.Thing → Bytes → Result line.Thing → Type 0) (k : ℕ) (text : Bytes) (at : ℕ) (before : Bytes)
    (n next m : ℕ) (after : Bytes) : Type 0 where
  pub thing : line.Thing
  pub goes_on : (r : Result line.Thing) → more thing (drop next text) r → line.reads k (drop at text) r
  pub stands : Entered line.written line.spare text at before n thing next m after

-- no byte that joins is 0
pub joint_seen : (c : Chain) → 0 < joining c
joint_seen chain.Path = omega arith
joint_seen chain.Sequence = omega arith
joint_seen chain.Filter = omega arith
joint_seen chain.Conjunction = omega arith

-- what is written for links that are joined
writes : (c : Chain) (n : ℕ) (x y : Joined c)
    → let m : ℕ = n + length (joined_entries c n x) in
    let right : Entries = joined_entries c m y in
    joined_entries c n (join c x y) ≡ joined_entries c n x ++ (right ++ one (joined_kind c) 0 (m - 1) (m + length right - 1))
unfolding path_entries
writes chain.Path n x y = refl
writes chain.Sequence n x y = refl
writes chain.Filter n x y = refl
writes chain.Conjunction n x y = refl

-- the same by the numbers of entries behind each
writes_on : (c : Chain) (n : ℕ) (x y : Joined c) {m l : ℕ} → m ≡ n + length (joined_entries c n x) → l ≡ m + length (joined_entries c m y)
    → joined_entries c n (join c x y) ≡ joined_entries c n x ++ (joined_entries c m y ++ one (joined_kind c) 0 (m - 1) (l - 1))
writes_on c n x y e f = rw (f, e) (writes c n x y)

-- so much of a chain is read
abbrev pub Chained : Chain → ℕ → Bytes → ℕ → Bytes → ℕ → ℕ → ℕ → Bytes → Type 0
Chained c k = Going (chains c) (GoesOn most_open c k) k

module _ (c : Chain) {k : ℕ} {text : Bytes} {at : ℕ} {before : Bytes} {n : ℕ} where
  -- the first link is read
  pub started : {r : Read} {after : Bytes} → Follows (links c) k text at before n (Ok r) after
      → Chained c k text at before n r.at r.count after
  started f = let (x, rd, st) = got_stands f in record { thing = x; goes_on = λ r g. starts rd g; stands = st }

  -- the first link is not read
  pub not_started : {z : Stopped} {after : Bytes} → Follows (links c) k text at before n (Err z) after
      → Follows (chains c) k text at before n (Err z) after
  not_started (stops rd w) = stops (start_stops rd) w

  module _ {next m : ℕ} {mid : Bytes} (going : Chained c k text at before n next m mid) where
    -- no joining byte: the chain is at its end
    pub ended : (get_or text next 0 ≡ joining c → ⊥) → Follows (chains c) k text at before n (Ok (record { at = next; count = m })) mid
    ended no_byte =
        let off : NotAt (joining c ∷ []) (drop next text) = not_at (joining c ∷ []) text next (nor no_byte none_of) in
        follows (going.goes_on (got going.thing (drop next text)) (ends off)) going.stands

    module _ (e : get_or text next 0 ≡ joining c) where
      -- the joining byte is the next
      joint : drop next text ≡ joining c ∷ drop (next + 1) text
      joint = here text next (joining c) e (joint_seen c)

      -- one more link is not read
      pub not_turned : {z : Stopped} {after : Bytes} → Follows (links c) k text (next + 1) mid m (Err z) after
          → Follows (chains c) k text at before n (Err z) after
      not_turned {z = z} (stops rd w) = stops (going.goes_on (stopped (why z) (drop (stop_place z) text)) (rw joint (joined_stops refl rd))) w

      -- one more link is read, and the two are joined
      pub turned : {r : Read} {after last : Bytes} → Follows (links c) k text (next + 1) mid m (Ok r) after
          → Added after r.count (one (joined_kind c) 0 (m - 1) (r.count - 1)) last → Chained c k text at before n r.at (r.count + 1) last
      turned {r = r} {last = last} w a =
          let l : ℕ = r.count in
          let (y, rd, st) = got_stands w in
          let x : Joined c = going.thing in
          let es : Entries = joined_entries c n x in
          let fs : Entries = joined_entries c m y in
          let count : m ≡ n + length es = going.stands.count in
          let count_too : l ≡ m + length fs = st.count in
          let few = going.stands.few in
          let few_too = st.few in
          let further = going.stands.further in
          let further_too = st.further in
          let own : Entries = one (joined_kind c) 0 (m - 1) (l - 1) in
          let both : joined_entries c n (join c x y) ≡ es ++ (fs ++ own) = writes_on c n x y count count_too in
          let len : length (joined_entries c n (join c x y)) ≡ length es + (length fs + 1) =
          ap length both ∙ length-append es (fs ++ own) ∙ ap (λ (j : ℕ). length es + j) (length-append fs own) in
          record {
            thing = join c x y;
            goes_on = λ r w. going.goes_on r (rw joint (joined refl rd w));
            stands = record {
              further = omega arith;
              some = omega arith;
              within = st.within;
              count = omega arith;
              few = omega arith;
              table =
                  subst (λ (gs : Entries). Added before n gs last) (sym both)
                  (added_on going.stands.table count (added_on st.table count_too a));
            };
          }
