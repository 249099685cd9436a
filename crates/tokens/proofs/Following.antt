-- What follows where a reader's answer is used by another. Assumes nothing.
use Prim.Native.Nat.{ℕ, ◌+◌, ◌-◌, ◌*◌, ◌≤◌, ◌<◌}
use native.Mathlib.Omega.{arith}
use mathlib.Core.Path.{◌≡◌, sym, ap, ◌∙◌, subst}
use mathlib.Core.List.{◌++◌}
use lib.ListN.{length, drop, length-append}
use Rattle.reply.specs.Bytes.{Bytes}
use Rattle.query.specs.Table.{Entries}
use Rattle.derivation.proofs.Rules.{Stop, got, stopped}
use Rattle.tokens.specs.declared.answer.Read.{Read}
use Rattle.std.specs.Prelude.{Ok}
use Rattle.tokens.specs.Reading.{Line, one, Added, Entered, Answer, Follows, follows, stops, RoomAhead, place_of}
use Rattle.tokens.specs.Reading.{RoomBehind, Behind, behind, passed_on}
use Rattle.tokens.proofs.Entries.{added_on}

-- something is read by the line, and stands in the table
abbrev pub Found : Line → ℕ → Bytes → ℕ → Bytes → ℕ → Read → Bytes → Type 0
Found line k text at before n r after =
    (x : line.Thing) × line.reads k (drop at text) (got x (drop r.at text))
    × Entered line.written line.spare text at before n x r.at r.count after

module _ {line : Line} {k : ℕ} {text : Bytes} {at : ℕ} {before after : Bytes} {n : ℕ} where
  -- an answer's place is in the text
  pub place_in_text : {p : Answer} → Follows line k text at before n p after → place_of p ≤ length text
  place_in_text (follows rd st) = st.within
  place_in_text (stops rd w) = w

  -- what was read stands in the table
  pub got_stands : {r : Read} → Follows line k text at before n (Ok r) after → Found line k text at before n r after
  got_stands (follows {x = x} rd st) = (x, rd, st)

  -- one entry without operands, from `at` up to `to`
  pub leaf_follows : {kind label to : ℕ} {p : Answer} (x : line.Thing) → line.reads k (drop at text) (got x (drop to text))
      → line.written n x ≡ one kind label 0 0
      → line.spare ≤ 1 → at < to → to ≤ length text → (p ≡ Ok (record { at = to; count = n + 1 })) × Added before n (one kind label 0 0) after
      → Follows line k text at before n p after
  leaf_follows {to = to} x rd w s l i e =
      let len : length (line.written n x) ≡ 1 = ap length w in
      subst (λ (q : Answer). Follows line k text at before n q after) (sym e.0)
      (follows rd (record {
        further = l;
        some = omega arith;
        within = i;
        count = omega arith;
        few = omega arith;
        table = rw w e.1;
      }))

  -- behind what was read from `from`, at or behind `at`, there is room for one more entry
  pub room_after : {from : ℕ} {p : Answer} → Follows line k text from before n p after → RoomAhead text at before n → at ≤ from
      → 1 ≤ line.spare + 2 * (from - at)
      → length after ≡ length before → RoomBehind p after
  room_after (follows rd st) r l s e =
      let a = st.further in
      let b = st.within in
      let c = st.few in
      let d = st.some in
      let f = r.room in
      (omega arith, omega arith)
  room_after (stops rd w) r l s e = tt

-- What one line reads as x in the text b, another line reads as `wrap x` in the text a.
pub record Turns (line outer : Line) (wrap : line.Thing → outer.Thing) (k j : ℕ) (b a : Bytes) : Type 0 where
  pub goes : {x : line.Thing} {more : Bytes} → line.reads k b (got x more) → outer.reads j a (got (wrap x) more)
  pub halts : {s : Stop} {more : Bytes} → line.reads k b (stopped s more) → outer.reads j a (stopped s more)

module _ {line outer : Line} (wrap : line.Thing → outer.Thing) {k j : ℕ} {text : Bytes} {from at : ℕ}
    (turns : Turns line outer wrap k j (drop from text) (drop at text)) (l : at ≤ from)
    {n : ℕ} {before : Bytes} where
  -- the other line writes the same
  pub turned : {mid : Bytes} {p : Answer} → ((x : line.Thing) → outer.written n (wrap x) ≡ line.written n x)
      → outer.spare ≤ line.spare + 2 * (from - at)
      → Follows line k text from before n p mid → Follows outer j text at before n p mid
  turned {mid = mid} writes s (follows {x = x} {r = r} rd st) =
      let a = st.further in
      let b = st.count in
      let c = st.few in
      let len : length (outer.written n (wrap x)) ≡ length (line.written n x) = ap length (writes x) in
      follows {x = wrap x} {r = r} {after = mid} (turns.goes rd) (record {
        further = omega arith;
        some = st.some;
        within = st.within;
        count = omega arith;
        few = omega arith;
        table = rw (writes x) st.table;
      })
  turned writes s (stops rd w) = stops (turns.halts rd) w

  -- the other line writes an entry of a kind behind it
  pub wrapped : {kind : ℕ} {mid after : Bytes} {p r : Answer}
      → ((x : line.Thing) → outer.written n (wrap x) ≡ line.written n x ++ one kind 0 (n + length (line.written n x) - 1) 0)
      → outer.spare + 1 ≤ line.spare + 2 * (from - at)
      → Follows line k text from before n p mid → Behind kind mid p r after → Follows outer j text at before n r after
  wrapped {kind = kind} {mid = mid} {after = after} writes s (follows {x = x} {r = r} rd st) (behind w) =
      let es : Entries = line.written n x in
      let a = st.further in
      let b = st.count in
      let c = st.few in
      let d = st.some in
      let own : Entries = one kind 0 (n + length es - 1) 0 in
      let last : Added mid r.count own after = subst (λ (i : ℕ). Added mid r.count (one kind 0 (i - 1) 0) after) b w in
      let len : length (outer.written n (wrap x)) ≡ length es + 1 = ap length (writes x) ∙ length-append es own in
      follows {x = wrap x} {r = record { at = r.at; count = r.count + 1 }} {after = after} (turns.goes rd) (record {
        further = omega arith;
        some = omega arith;
        within = st.within;
        count = omega arith;
        few = omega arith;
        table = rw (writes x) (added_on st.table b last);
      })
  wrapped writes s (stops rd w) passed_on = stops (turns.halts rd) w

-- where a thing stands, the reader is ready behind one more byte
pub ready_after : {A : Type 0} {written : ℕ → A → Entries} {spare : ℕ} {text : Bytes} {at : ℕ} {before : Bytes} {n : ℕ} {x : A}
    {to m : ℕ} {after : Bytes}
    → RoomAhead text at before n → Entered written spare text at before n x to m after → length after ≡ length before → to < length text
    → RoomAhead text (to + 1) after m
ready_after r st e l =
    let a = r.room in
    let b = st.few in
    let c = st.further in
    record { within = omega arith; room = omega arith }
