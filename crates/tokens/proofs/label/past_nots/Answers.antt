-- `past_nots`: the bytes that are counted are !, and the next is none.
use Prim.Native.Nat.{ℕ, ◌+◌, ◌-◌, ◌≤◌, ◌<◌}
use native.Mathlib.Omega.{arith}
use mathlib.Core.Path.{◌≡◌, ◌∙◌, sym}
use mathlib.Core.Bool.{Bool}
use lib.Dec.{eqb}
use lib.ListN.{length, take, drop, length-drop}
use Rattle.std.proofs.lemmas.Bool.{eqb-true, eq-eqb, false≢true}
use Rattle.std.proofs.lemmas.List.{get_or-drop, take_all}
use Rattle.std.specs.List.{prefix_len}
use Rattle.std.proofs.lemmas.List.Sums.{prefix_len_passes, prefix_len_stops, prefix_len-le-length}
use Rattle.reply.specs.Bytes.{Bytes}
use Rattle.tokens.specs.Reading.{Nots}
use Rattle.tokens.proofs.Places.{inside}
use Rattle.tokens.proofs.label.past_nots.Goals as goal

-- the test of a !
abbrev bang : ℕ → Bool
bang b = eqb b 33

-- so many bytes from a place on are !
counted : (text : Bytes) (at : ℕ) → at ≤ length text → Nots text at (at + prefix_len bang (drop at text))
counted text at l =
    let rest : Bytes = drop at text in
    let n : ℕ = prefix_len bang rest in
    let most = prefix_len-le-length bang rest in
    let len = length-drop at text in
    record {
      on = omega arith;
      within = omega arith;
      each = λ k m h.
          let i : ℕ = k - at in
          let place : at + i ≡ k = omega arith in
          rw (sym place) (sym (get_or-drop at text i 0) ∙ eqb-true _ _ (prefix_len_passes bang rest i 0 (omega arith)));
      other = λ h.
          let i : at + n < length text = inside text (at + n) (omega arith) in
          false≢true (sym (prefix_len_stops bang rest 0 (omega arith)) ∙ eq-eqb _ _ (get_or-drop at text n 0 ∙ h));
    }

-- what is left of the text
left : (text : Bytes) (at : ℕ) → take (length text - at) (drop at text) ≡ drop at text
left text at = take_all (length text - at) (drop at text) (omega (arith, length-drop at text))

pub overflow_add-result : goal.overflow_add-result
overflow_add-result c =
    let t : Bytes = c.args.text.now in
    let most = prefix_len-le-length bang (drop c.args.at t) in
    let n : c.nots.result ≡ prefix_len bang (drop c.args.at t) = rw (sym (left t c.args.at)) c.nots.ensures in
    omega (arith, length-drop c.args.at t)

pub returns : goal.returns
returns c =
    let t : Bytes = c.args.text.now in
    rw (c.nots.ensures, left t c.args.at) (counted t c.args.at c.requires)
