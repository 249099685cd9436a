-- What the readers come to on a whole text, in the words of call 2's promise. Assumes nothing.
use Prim.Native.Nat.{ℕ, suc, ◌+◌, ◌-◌, ◌*◌, ◌≤◌, ◌<◌}
use native.Mathlib.Omega.{arith}
use native.Mathlib.Nat.{zero-add}
use mathlib.Core.Path.{◌≡◌, sym, ◌∙◌, subst}
use mathlib.Core.List.{[], ◌∷◌}
use lib.ListN.{length, get_or, take, drop, length-drop, drop_of_length-le}
use Rattle.reply.specs.Bytes.{Bytes}
use Rattle.query.specs.Syntax.{Path}
use Rattle.query.specs.Table.{entry_bytes}
use Rattle.text.specs.Grammar.{PathText}
use Rattle.text.specs.Written.{table_of, path_entries}
use Rattle.text.specs.Promise.{TextLength, OneTooMany}
use Rattle.derivation.proofs.Rules.{Stop, got, stopped, PathReads}
use Rattle.derivation.proofs.Rules as rules
use Rattle.derivation.proofs.Judged.{BreaksFirst, DeepFirst, Judged, read, not_whole, broken, deep, judged}
use Rattle.derivation.proofs.Mistakes.{Clear, breaks_clear, deep_clear, whole_clear}
use Rattle.std.specs.Prelude.{Ok, Err}
use Rattle.tokens.specs.declared.answer.Read.{Read}
use Rattle.tokens.specs.declared.answer.Stopped.{Stopped}
use Rattle.tokens.specs.declared.answer.Stopped.TheVariants.{Broken, Deep}
use Rattle.tokens.specs.Reading.{Answer, place_of, Follows, stops, paths}
use Rattle.tokens.proofs.Places.{begins}
use Rattle.tokens.proofs.Following.{got_stands}
use Rattle.reader.specs.Reader.{Parses, parses, breaks_off, too_many_open}

-- the length of what is left says the place
place : (text : Bytes) (i : ℕ) → i ≤ length text → length text - length (drop i text) ≡ i
place text i l = omega (arith, length-drop i text)

module _ {text : Bytes} where
  -- what is judged of a text that breaks
  broken_first : {more : Bytes} → Judged text (stopped rules.broken more) → BreaksFirst text (length text - length more)
  broken_first (broken f) = f

  -- of one with a bracket too many
  deep_first : {more : Bytes} → Judged text (stopped rules.deep more) → DeepFirst text (length text - length more)
  deep_first (deep f) = f

  -- of one that goes on behind a path
  more_first : {p : Path} {c : ℕ} {more : Bytes} → Judged text (got p (c ∷ more)) → BreaksFirst text (length text - suc (length more))
  more_first (not_whole f) = f

  -- and of a path's
  whole_text : {p : Path} → Judged text (got p []) → PathText text p × ((k : ℕ) → ¬ OneTooMany text k)
  whole_text (read x s) = (x, s)

  -- reading stops
  pub stopped_parses : {z : Stopped} {before after : Bytes} → Follows paths 0 text 0 before 0 (Err z) after → Parses text (Err z) after
  stopped_parses {z = Broken i} (stops rd w) = breaks_off w (subst (BreaksFirst text) (place text i w) (broken_first (judged rd)))
  stopped_parses {z = Deep i} (stops rd w) = too_many_open w (subst (DeepFirst text) (place text i w) (deep_first (judged rd)))

  -- a path is read, and more text stands behind it
  pub longer_parses : {r : Read} {before after : Bytes} → r.at < length text → Follows paths 0 text 0 before 0 (Ok r) after → Parses text (Err (Broken r.at)) after
  longer_parses {r = r} l f =
      let at : ℕ = r.at in
      let (x, rd, st) = got_stands f in
      let next : drop at text ≡ get_or text at 0 ∷ drop (at + 1) text = begins text at l in
      let here : length text - suc (length (drop (at + 1) text)) ≡ at = omega (arith, length-drop (at + 1) text) in
      breaks_off {i = at} (omega arith) (subst (BreaksFirst text) here (more_first (judged (rw next at rd))))

  -- a path is read, and nothing stands behind it
  pub whole_parses : {r : Read} {before after : Bytes} → TextLength text → length text ≤ r.at
      → 12 * length text ≤ length before → length after ≡ length before → Follows paths 0 text 0 before 0 (Ok r) after
      → Parses text (Ok r) after
  unfolding table_of
  whole_parses {r = r} {after = after} right l room kept f =
      let at : ℕ = r.at in
      let n : ℕ = r.count in
      let (x, rd, st) = got_stands f in
      let (text_of, shallow) = whole_text (judged (rw (drop_of_length-le text {i = at} l) at rd)) in
      let few = st.few in
      let within = st.within in
      let most = right.most in
      let count : n ≡ length (path_entries 0 x) = st.count ∙ zero-add _ in
      let front : take (6 * n) after ≡ entry_bytes (path_entries 0 x) =
      subst (λ (m : ℕ). take (6 * m) after ≡ entry_bytes (path_entries 0 x)) (sym st.count) st.table.front in
      parses {p = x} {r = r} {after = after} text_of shallow (omega arith) count (omega arith) (omega arith) front

-- Where reading comes to, the text is clear of mistakes by the grammar and the brackets.
pub reached_clear : {text : Bytes} {p : Answer} {after : Bytes} → Parses text p after → Clear text (place_of p) × (place_of p ≤ length text)
reached_clear (parses {r = r} x shallow end c l m f) = (whole_clear x shallow r.at, omega arith)
reached_clear (breaks_off w b) = (breaks_clear b, w)
reached_clear (too_many_open w d) = (deep_clear d, w)
