-- Chains of which one more link is wanted: one chain that is begun, and two of which one is a link of the other. Assumes nothing.
use Prim.Native.Nat.{ℕ, ◌+◌, ◌*◌, ◌≤◌, ◌<◌}
use native.Mathlib.Omega.{arith}
use mathlib.Core.Path.{◌≡◌, refl}
use native.Mathlib.Nat.{le_refl}
use lib.ListN.{length, get_or}
use Rattle.reply.specs.Bytes.{Bytes}
use Rattle.derivation.specs.declared.Chain.{Chain}
use Rattle.derivation.specs.Parts.{Joined, joining}
use Rattle.derivation.proofs.Rules as rules
use Rattle.tokens.specs.declared.answer.Read.{Read}
use Rattle.std.specs.Prelude.{Ok, Err}
use Rattle.tokens.specs.declared.answer.Stopped.{Stopped}
use Rattle.tables.specs.declared.kinds.Sort.{Sort}
use Rattle.tables.specs.declared.kinds.Sort.TheVariants as sort
use Rattle.tokens.specs.Reading.{Entered, Answer, Follows, RoomAhead, joined_entries, joined_spare, chains, links}
use Rattle.tokens.specs.Reading.{outer_chain, inner_chain, Joins, alone, both}
use Rattle.tokens.proofs.Places.{inside}
use Rattle.tokens.proofs.Following as following
use Rattle.tokens.proofs.Following.{ready_after}
use Rattle.tokens.proofs.Chains.{joint_seen, Chained, started, not_started, turned, not_turned}

-- The next link of a chain is wanted at a place, where the table has m entries: its first link, or one that a byte joins to what is read.
pub data Begun (c : Chain) (k : ℕ) (text : Bytes) (at : ℕ) (before : Bytes) (n : ℕ) : ℕ → ℕ → Bytes → Type 0 where
  first : Begun c k text at before n at n before
  further : {next m : ℕ} {mid : Bytes} → Chained c k text at before n next m mid → get_or text next 0 ≡ joining c
      → Begun c k text at before n (next + 1) m mid

module _ (c : Chain) {k : ℕ} {text : Bytes} {at : ℕ} {before : Bytes} {n : ℕ} where
  -- the link is read, and joined where it is not the first
  pub linked : {next m : ℕ} {mid : Bytes} {r : Read} {w : ℕ} {after last : Bytes} {d : Chain}
      → Begun c k text at before n next m mid → Follows (links c) k text next mid m (Ok r) after → d ≡ c
      → Joins d after n m r.count w last
      → Chained c k text at before n r.at w last
  linked b f same j =
      go b f (rw same at j)
    where
      go : {next m : ℕ} {mid : Bytes} {r : Read} {w : ℕ} {after last : Bytes}
          → Begun c k text at before n next m mid → Follows (links c) k text next mid m (Ok r) after
          → Joins c after n m r.count w last → Chained c k text at before n r.at w last
      go first f (alone a) = started c f
      go first f (both b added) = absurd (omega arith)
      go (further g i) f (alone a) = let s = g.stands.some in absurd (omega arith)
      go (further g i) f (both b added) = turned c g i f added

  -- the link is not read, so the chain is not
  pub not_linked : {next m : ℕ} {mid : Bytes} {z : Stopped} {after : Bytes}
      → Begun c k text at before n next m mid → Follows (links c) k text next mid m (Err z) after
      → Follows (chains c) k text at before n (Err z) after
  not_linked first f = not_started c f
  not_linked (further g j) f = not_turned c g j f

  -- the place does not go back
  pub begun_on : {next m : ℕ} {mid : Bytes} → Begun c k text at before n next m mid → at ≤ next
  begun_on first = omega arith
  begun_on (further g j) = let f = g.stands.further in omega arith

  -- the reader is ready there
  pub begun_ready : {next m : ℕ} {mid : Bytes}
      → RoomAhead text at before n → length mid ≡ length before → Begun c k text at before n next m mid → RoomAhead text next mid m
  begun_ready r e first = r
  begun_ready r e (further {next = place} g j) =
      ready_after r g.stands e (inside text place (rw j (joint_seen c)))

  -- where a link was joined, there is room for the entry that joins it
  pub room_to_join : {next m : ℕ} {mid : Bytes} {x : Joined c} {to l : ℕ} {after : Bytes}
      → RoomAhead text at before n → Begun c k text at before n next m mid
      → Entered (joined_entries c) (joined_spare c) text next mid m x to l after → n < m → 6 * (l + 1) ≤ length before
  room_to_join r first st s = absurd (omega arith)
  room_to_join r (further g j) st s =
      let room = r.room in
      let a = g.stands.few in
      let b = g.stands.further in
      let d = st.few in
      let e = st.further in
      let w = st.within in
      omega arith

-- the links of the outer chain are the inner chain
pub as_link : (s : Sort) {k : ℕ} {text : Bytes} {at : ℕ} {before : Bytes} {n : ℕ} {p : Answer} {after : Bytes}
    → Follows (chains (inner_chain s)) k text at before n p after → Follows (links (outer_chain s)) k text at before n p after
as_link sort.Path {at = at} f =
    following.turned (λ x. x) (record { goes = rules.sequence; halts = rules.sequence }) (le_refl at) (λ x. refl) (omega arith) f
as_link sort.Filter {at = at} f =
    following.turned (λ x. x) (record { goes = rules.conjunction; halts = rules.conjunction }) (le_refl at) (λ x. refl) (omega arith) f

-- Where a path or a filter is read: the outer chain up to a link of it, which is an inner chain, and that up to the next link.
pub record Standing (s : Sort) (k : ℕ) (text : Bytes) (at : ℕ) (before : Bytes) (n next begun left : ℕ) (table : Bytes) : Type 0 where
  pub from : ℕ
  pub mid : Bytes
  pub kept : length mid ≡ length before
  pub outside : Begun (outer_chain s) k text at before n from begun mid
  pub inside : Begun (inner_chain s) k text from mid begun next left table
