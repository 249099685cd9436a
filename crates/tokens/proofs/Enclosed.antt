-- Brackets: what stands in one, with one more open, and the byte that closes it. Assumes nothing.
use Prim.Native.Nat.{ℕ, ◌+◌, ◌≤◌, ◌<◌}
use native.Mathlib.Omega.{arith}
use native.Mathlib.Numerals.{add-one}
use mathlib.Core.Path.{◌≡◌, sym, ◌∙◌}
use mathlib.Core.List.{[], ◌∷◌}
use mathlib.Core.Logic.{◌⊎◌, inl, inr}
use lib.ListN.{length, get_or, drop}
use Rattle.reply.specs.Bytes.{Bytes}
use Rattle.derivation.specs.declared.Bracket.{Bracket}
use Rattle.derivation.specs.declared.Bracket.TheVariants.{Square, Round, Curly}
use Rattle.derivation.specs.Parts.{Joined, inside, opening_byte, closing_byte}
use Rattle.derivation.proofs.Rules.{Result, BracketReads, closed, stays_open, inside_stops, too_deep}
use Rattle.std.specs.Prelude.{Err}
use Rattle.tokens.specs.declared.answer.Stopped.TheVariants.{Deep}
use Rattle.tokens.specs.Reading.{filters, chains, brackets, most_open, Answer, Follows, follows, stops, Closed}
use Rattle.tokens.specs.Reading.{closed_by, open_at, passed_by}
use Rattle.tokens.proofs.Places.{begins, not_at, none_of, nor}
use Rattle.tokens.proofs.Places as places

-- no bracket has the byte 0
opening_seen : (b : Bracket) → 0 < opening_byte b
opening_seen Square = omega arith
opening_seen Round = omega arith
opening_seen Curly = omega arith

closing_seen : (b : Bracket) → 0 < closing_byte b
closing_seen Square = omega arith
closing_seen Round = omega arith
closing_seen Curly = omega arith

module _ (b : Bracket) (text : Bytes) (at : ℕ) (opens : get_or text at 0 ≡ opening_byte b) where
  -- the byte that opens the bracket is in the text
  pub bracket_inside : at < length text
  bracket_inside = places.inside text at (rw opens (opening_seen b))

  -- a rule of brackets, at the place
  here : {k : ℕ} {r : Result (Joined (inside b))} → BracketReads most_open b k (get_or text at 0 ∷ drop (at + 1) text) r
      → BracketReads most_open b k (drop at text) r
  here x = rw (begins text at bracket_inside) x

  module _ {k n : ℕ} {before after : Bytes} where
    -- a bracket that is one too many
    pub bracket_too_deep : most_open ≤ k → Follows (brackets b) k text at before n (Err (Deep at)) after
    bracket_too_deep d = let l = bracket_inside in stops (rw (begins text at l) (too_deep opens d)) (omega arith)

    -- a bracket with what stands in it
    pub bracket_follows : {p r : Answer} {close : ℕ} → k < most_open → Follows (chains (inside b)) (k + 1) text (at + 1) before n p after
        → close ≡ closing_byte b → Closed text close p r → Follows (brackets b) k text at before n r after
    bracket_follows o (follows {x = x} {r = r} rd st) c (closed_by e) =
        let to : ℕ = r.at in
        let a = st.further in
        let f = st.few in
        let i : to < length text = places.inside text to (rw (e, c) (closing_seen b)) in
        follows {r = record { at = to + 1; count = r.count }} (here (closed opens o (rw (add-one k, begins text to i) at rd) (e ∙ c))) (record {
          further = omega arith;
          some = st.some;
          within = omega arith;
          count = st.count;
          few = omega arith;
          table = st.table;
        })
    bracket_follows o (follows {r = r} rd st) c (open_at e) =
        let other = not_at (closing_byte b ∷ []) text r.at (nor (λ q. e (q ∙ sym c)) none_of) in
        stops (here (stays_open opens o (rw (add-one k) at rd) other)) st.within
    bracket_follows o (stops rd w) c passed_by = stops (here (inside_stops opens o (rw (add-one k) at rd))) w

-- a filter stands in a square bracket and in a curly one
pub filter_inside : {b : Bracket} {k : ℕ} {text : Bytes} {at : ℕ} {before : Bytes} {n : ℕ} {p : Answer} {after : Bytes}
    → (b ≡ Square) ⊎ (b ≡ Curly) → Follows filters k text at before n p after → Follows (chains (inside b)) k text at before n p after
filter_inside (inl e) f = rw e f
filter_inside (inr e) f = rw e f
