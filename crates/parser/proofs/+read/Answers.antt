-- The readers of paths and filters, which call each other: what each of them returns, and what their calls and loops need.
use Prim.Native.Nat.{ℕ, ◌+◌, ◌-◌, ◌*◌, ◌≤◌, ◌<◌}
use native.Mathlib.Omega.{arith}
use mathlib.Core.Path.{◌≡◌, refl, sym, ap, ◌∙◌, subst}
use mathlib.Core.List.{Memᴰ}
use lib.ListN.{length, get_or}
use Rattle.reply.specs.Bytes.{Bytes}
use Rattle.derivation.specs.Parts.{inside, joining}
use Rattle.derivation.proofs.Rules.{StarsRead, term_bytes}
use Rattle.derivation.specs.declared.Chain.{Chain}
use Rattle.std.specs.Prelude.{Ok}
use Rattle.reply.proofs.Checking.{met}
use Rattle.tokens.specs.declared.answer.Read.{Read}
use Rattle.tables.specs.declared.kinds.Sort.{Sort}
use Rattle.tokens.specs.Reading.{RoomAhead, Follows, items, chains, links, outer_chain, inner_chain}
use Rattle.tokens.proofs.Places as places
use Rattle.tokens.proofs.Places.{nor, none_of}
use Rattle.tokens.proofs.Following.{got_stands, room_after}
use Rattle.tokens.proofs.Atoms.{square_follows, round_follows, axis_follows, no_atom}
use Rattle.tokens.proofs.Enclosed.{bracket_too_deep, bracket_follows, filter_inside}
use Rattle.tokens.proofs.Chains.{joint_seen, Chained, Going, ended}
use Rattle.tokens.proofs.Begun.{first, further, linked, not_linked, begun_on, begun_ready, room_to_join, as_link, Standing}
use Rattle.tokens.proofs.Stars.{atom_read, atom_not_read, no_star, starred}
use Rattle.tokens.proofs.Terms.{t_follows, f_follows, label_follows, curly_follows, leads_follows, not_follows}
use Rattle.parser.proofs.+read.Goals as goal
use Rattle.parser.proofs.+read.Goals.{bracketed-in-Round, bracketed-in-Square, bracketed-After-closing}

-- `atom`: by the byte at the place it is a bracket that is read, an axis that is written, or none.
pub atom-returns-in-91 : goal.atom-returns-in-91
atom-returns-in-91 t c = square_follows c.bracketed-inner.ensures c.behind.ensures

pub atom-returns-in-40 : goal.atom-returns-in-40
atom-returns-in-40 t c = round_follows c.bracketed.ensures

pub atom-returns-in_default-axis : goal.atom-returns-in_default-axis
atom-returns-in_default-axis t c =
    no_atom c.requires.within (λ e. omega arith) (λ e. omega arith) (rw c.byte_at.ensures at c.in_default-axis.ensures)

pub atom-returns-in-Some : goal.atom-returns-in-Some
atom-returns-in-Some t c = axis_follows (rw c.byte_at.ensures at c.in-Some.ensures) (rw c.from.ensures at c.leaf.ensures)

-- `bracketed`: what stands in the bracket is a path or a filter, and either is closed in the same way.
pub bracketed-returns-then-depth-ge-OPEN_BRACKETS : goal.bracketed-returns-then-depth-ge-OPEN_BRACKETS
bracketed-returns-then-depth-ge-OPEN_BRACKETS t c = bracket_too_deep c.args.bracket _ _ c.requires.1 c.if-depth-ge-OPEN_BRACKETS.true

-- What is read in it is what stands in such a bracket.
held : {t : ℕ} (c : bracketed-After-closing t)
    → let a = c.args in
    Follows (chains (inside a.bracket)) (a.depth + 1) a.text.now (a.from.at + 1) a.table.now a.from.count c.match-bracket.inner c.match-bracket.table
held c =
    elim c.match-bracket.branch [
      | bracketed-in-Round w ↦ rw (w.inner-is, w.table-is, w.in-Round.is) w.path-inner.ensures
      | bracketed-in-Square w ↦ rw (w.inner-is, w.table-is) (filter_inside w.in-Square.is w.filter-inner.ensures)
    ]

pub bracketed-returns : goal.bracketed-returns
bracketed-returns t c =
    bracket_follows c.args.bracket _ _ c.requires.1 c.if-depth-ge-OPEN_BRACKETS.false (held (goal.at.bracketed-returns t c).After-closing)
    c.closing.ensures c.closed.ensures

-- `chained`: each turn reads a link of the inner chain; where that chain ends, it is a link of the outer one.
module _ {of : Sort} {depth at count next begun left : ℕ} {text table now : Bytes}
    (room : RoomAhead text at table count) (s : Standing of depth text at table count next begun left now) where
  -- the reader is ready for the inner chain where that begins, and for the next link
  ready_inner : RoomAhead text s.from s.mid begun
  ready_inner = begun_ready (outer_chain of) room s.kept s.outside

  ready : length now ≡ length table → RoomAhead text next now left
  ready kept = begun_ready (inner_chain of) ready_inner (kept ∙ sym s.kept) s.inside

  module _ {r : Read} {after : Bytes} (link : Follows (links (inner_chain of)) depth text next now left (Ok r) after) where
    -- a link goes on in the text and writes something, and there is room for an entry that joins it
    one_more : (next < r.at) × (r.at ≤ length text) × (left < r.count) × (begun < left → 6 * (r.count + 1) ≤ length table)
    one_more =
        let st = (got_stands link).2 in
        let e = s.kept in
        (st.further, st.within, st.some, λ l. let r = room_to_join (inner_chain of) ready_inner s.inside st l in omega arith)

  module _ {last m : ℕ} {after : Bytes} (read : Chained (inner_chain of) depth text s.from s.mid begun last m after) where
    -- where another byte than that of the inner chain stands, that has ended, and is a link of the outer one
    link_outer : (get_or text last 0 ≡ joining (inner_chain of) → ⊥)
        → Follows (links (outer_chain of)) depth text s.from s.mid begun (Ok (record { at = last; count = m })) after
    link_outer other = as_link of (ended (inner_chain of) read other)

    -- which writes something, and there is room for an entry that joins it
    outer_more : (get_or text last 0 ≡ joining (inner_chain of) → ⊥) → (begun < m) × (count < begun → 6 * (m + 1) ≤ length table)
    outer_more other =
        let st = (got_stands (link_outer other)).2 in
        (st.some, λ l. room_to_join (outer_chain of) room s.outside st l)

-- where the byte of a chain stands, it is in the text
in_text : (text : Bytes) (i : ℕ) (of : Chain) → get_or text i 0 ≡ joining of → i < length text
in_text text i of e = places.inside text i (subst (λ (b : ℕ). 0 < b) (sym e) (joint_seen of))

pub chained-loop-read-init : goal.chained-loop-read-init
chained-loop-read-init t c = (refl, record { from = _; mid = _; kept = refl; outside = first; inside = first })

pub chained-link-requires : goal.chained-link-requires
chained-link-requires t c =
    let s = c.loop-read.invariant.1 in
    let r = ready c.requires s c.loop-read.invariant.0 in
    let w = r.within in
    let a = begun_on (outer_chain c.args.of) s.outside in
    let b = begun_on (inner_chain c.args.of) s.inside in
    (omega arith, r)

pub chained-returns-in_err-read : goal.chained-returns-in_err-read
chained-returns-in_err-read t c =
    let s = c.loop-read.invariant.1 in
    let not_inner = not_linked (inner_chain c.args.of) s.inside c.in_err-read.ensures in
    rw (met c.from_residual.ensures.1) (not_linked (outer_chain c.args.of) s.outside (as_link c.args.of not_inner))

pub chained-joined-requires : goal.chained-joined-requires
chained-joined-requires t c =
    let m = one_more c.requires c.loop-read.invariant.1 c.in_ok-read.ensures in
    let e = c.link.auto.table ∙ c.loop-read.invariant.0 in
    (m.2, λ l. let r = m.3 l in omega arith)

pub chained-loop-read-preserved-then-byte-joint : goal.chained-loop-read-preserved-then-byte-joint
chained-loop-read-preserved-then-byte-joint t c =
    let of = c.args.of in
    let s = c.loop-read.invariant.1 in
    let byte = sym c.byte_at-byte.ensures ∙ c.if-byte-joint.true ∙ c.joint.ensures ∙ ap joining c.inner-inner.ensures in
    let read = linked (inner_chain of) s.inside c.in_ok-read.ensures c.inner-inner.ensures c.joined.ensures in
    let kept = c.joined.auto.table ∙ c.link.auto.table ∙ c.loop-read.invariant.0 in
    (kept, record { from = s.from; mid = s.mid; kept = s.kept; outside = s.outside; inside = further read byte })

pub chained-joined-requires-in-loop-read : goal.chained-joined-requires-in-loop-read
chained-joined-requires-in-loop-read t c =
    let of = c.args.of in
    let s = c.loop-read.invariant.1 in
    let read = linked (inner_chain of) s.inside c.in_ok-read.ensures c.inner-inner.ensures c.joined.ensures in
    let kept = c.joined.auto.table ∙ c.link.auto.table ∙ c.loop-read.invariant.0 in
    let other : get_or c.args.text.now c.in_ok-read.read.at 0 ≡ joining (inner_chain of) → ⊥ =
    λ e. c.if-byte-joint.false (c.byte_at-byte.ensures ∙ e ∙ sym (c.joint.ensures ∙ ap joining c.inner-inner.ensures)) in
    let more = outer_more c.requires s read other in
    (more.0, λ l. let r = more.1 l in omega arith)

pub chained-returns-then-byte-joint-2 : goal.chained-returns-then-byte-joint-2
chained-returns-then-byte-joint-2 t c =
    let of = c.args.of in
    let s = c.loop-read.invariant.1 in
    let read = linked (inner_chain of) s.inside c.in_ok-read.ensures c.inner-inner.ensures c.joined.ensures in
    let other : get_or c.args.text.now c.in_ok-read.read.at 0 ≡ joining (inner_chain of) → ⊥ =
    λ e. c.if-byte-joint.false (c.byte_at-byte.ensures ∙ e ∙ sym (c.joint.ensures ∙ ap joining c.inner-inner.ensures)) in
    let outer = linked (outer_chain of) s.outside (link_outer c.requires s read other) c.outer-outer.ensures c.joined-in-loop-read.ensures in
    ended (outer_chain of) outer
    (λ e. c.if-byte-joint-2.true (c.byte_at-byte.ensures ∙ e ∙ sym (c.joint-in-loop-read.ensures ∙ ap joining c.outer-outer.ensures)))

pub chained-loop-read-preserved : goal.chained-loop-read-preserved
chained-loop-read-preserved t c =
    let of = c.args.of in
    let s = c.loop-read.invariant.1 in
    let read = linked (inner_chain of) s.inside c.in_ok-read.ensures c.inner-inner.ensures c.joined.ensures in
    let kept = c.joined.auto.table ∙ c.link.auto.table ∙ c.loop-read.invariant.0 in
    let other : get_or c.args.text.now c.in_ok-read.read.at 0 ≡ joining (inner_chain of) → ⊥ =
    λ e. c.if-byte-joint.false (c.byte_at-byte.ensures ∙ e ∙ sym (c.joint.ensures ∙ ap joining c.inner-inner.ensures)) in
    let outer = linked (outer_chain of) s.outside (link_outer c.requires s read other) c.outer-outer.ensures c.joined-in-loop-read.ensures in
    let byte = sym c.byte_at-byte.ensures ∙ c.if-byte-joint-2.false ∙ c.joint-in-loop-read.ensures ∙ ap joining c.outer-outer.ensures in
    let kept_outer = c.joined-in-loop-read.auto.table ∙ kept in
    (kept_outer, record { from = _; mid = _; kept = kept_outer; outside = further outer byte; inside = first })

-- `item`: an atom is read, and each turn adds one star to it.
-- A star that is the next byte is a byte of the text, and there is room for its entry.
one_star : {depth at count next m : ℕ} {text before after : Bytes} → RoomAhead text at before count
    → Going items StarsRead depth text at before count next m after → get_or text next 0 ≡ 42
    → (next < length text) × (1 ≤ m) × (6 * (m + 1) ≤ length before)
one_star {next = next} {text = text} r g e =
    let l : next < length text = places.inside text next (omega arith) in
    let a = g.stands in
    let room = r.room in
    let f = a.further in
    let w = a.few in
    let h = a.some in
    (l, omega arith, omega arith)

pub item-returns-in_err-read : goal.item-returns-in_err-read
item-returns-in_err-read t c = rw (met c.from_residual.ensures.1) (atom_not_read c.in_err-read.ensures)

pub item-overflow_sub-read : goal.item-overflow_sub-read
item-overflow_sub-read t c =
    let going = c.loop-table.invariant.1 c.args.table.now (atom_read c.in_ok-read.ensures) in
    (one_star c.requires going (sym c.byte_at.ensures ∙ c.loop-table-test.true)).1

pub item-put-requires : goal.item-put-requires
item-put-requires t c =
    let going = c.loop-table.invariant.1 c.args.table.now (atom_read c.in_ok-read.ensures) in
    let room = one_star c.requires going (sym c.byte_at.ensures ∙ c.loop-table-test.true) in
    let kept = c.loop-table.invariant.0 ∙ c.atom.auto.table in
    omega arith

pub item-overflow_add-read-in-loop-table : goal.item-overflow_add-read-in-loop-table
item-overflow_add-read-in-loop-table t c =
    let going = c.loop-table.invariant.1 c.args.table.now (atom_read c.in_ok-read.ensures) in
    let room = one_star c.requires going (sym c.byte_at.ensures ∙ c.loop-table-test.true) in
    omega (arith, c.well_formed.1)

pub item-loop-table-preserved : goal.item-loop-table-preserved
item-loop-table-preserved t c =
    let star = sym c.byte_at.ensures ∙ c.loop-table-test.true in
    (c.put.auto.table ∙ c.loop-table.invariant.0, λ before g. starred (c.loop-table.invariant.1 before g) star c.put.ensures)

pub item-returns : goal.item-returns
item-returns t c =
    let going = c.loop-table.invariant.1 c.args.table.now (atom_read c.in_ok-read.ensures) in
    no_star going (λ e. c.loop-table-test.false (c.byte_at.ensures ∙ e))

-- `link`: the links of a sequence are items, and those of a conjunction terms.
pub link-returns-in-Path : goal.link-returns-in-Path
link-returns-in-Path t c = rw c.in-Path.is c.item.ensures

pub link-returns-in-Filter : goal.link-returns-in-Filter
link-returns-in-Filter t c = rw c.in-Filter.is c.term.ensures

-- `plain`: by the byte at the place one of four terms, or a path.
pub plain-returns-in-116 : goal.plain-returns-in-116
plain-returns-in-116 t c = t_follows (sym c.byte_at.ensures ∙ c.in-116.is) c.leaf.ensures

pub plain-returns-in-102 : goal.plain-returns-in-102
plain-returns-in-102 t c = f_follows (sym c.byte_at.ensures ∙ c.in-102.is) c.leaf-in-102.ensures

pub plain-returns-in-35 : goal.plain-returns-in-35
plain-returns-in-35 t c = label_follows (sym c.byte_at.ensures ∙ c.in-35.is) c.labelled.ensures

pub plain-returns-in-123 : goal.plain-returns-in-123
plain-returns-in-123 t c = curly_follows c.bracketed.ensures

pub plain-returns-in_default : goal.plain-returns-in_default
plain-returns-in_default t c =
    let none : ¬ Memᴰ (get_or c.args.text.now c.args.from.at 0) term_bytes =
    nor c.requires.1 (nor (λ e. omega arith) (nor (λ e. omega arith) (nor (λ e. omega arith) (nor (λ e. omega arith) none_of)))) in
    leads_follows none c.path-inner.ensures c.behind.ensures

-- `term`: each turn puts one more of the `!` that were passed in front of what is read.
pub term-loop-init : goal.term-loop-init
term-loop-init t c = (refl, λ before place e f. let same : place ≡ c.past_nots.result = omega arith in rw same f)

pub term-behind-answer-requires : goal.term-behind-answer-requires
term-behind-answer-requires t c =
    let place : ℕ = c.args.from.at + c.past_nots.result - c.loop.counter in
    let answered = c.loop.invariant.1 c.args.table.now place (omega arith) c.plain-answer.ensures in
    let kept = c.loop.invariant.0 ∙ c.plain-answer.auto.table in
    room_after answered c.requires (omega arith) (omega arith) kept

pub term-loop-preserved : goal.term-loop-preserved
term-loop-preserved t c = (
  c.behind-answer.auto.table ∙ c.loop.invariant.0,
  λ before place e f.
      let byte = c.past_nots.ensures.each place (omega arith) (omega arith) in
      not_follows byte (c.loop.invariant.1 before (place + 1) (omega arith) f) c.behind-answer.ensures,
)

pub term-returns : goal.term-returns
term-returns t c = c.loop.invariant.1 c.args.table.now c.args.from.at (omega arith) c.plain-answer.ensures
