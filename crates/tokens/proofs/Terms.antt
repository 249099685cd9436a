-- Terms: by the byte at the place, one of the five, or a path. Assumes nothing.
use Prim.Native.Nat.{ℕ, ◌+◌, ◌<◌}
use native.Mathlib.Omega.{arith}
use native.Mathlib.Nat.{le_refl, le-add_right}
use mathlib.Core.Path.{◌≡◌, refl}
use mathlib.Core.List.{◌∷◌, Memᴰ}
use lib.ListN.{length, get_or, drop}
use Rattle.reply.specs.Bytes.{Bytes}
use Rattle.query.specs.Syntax.{Filter, labelled, leads, always, never, not}
use Rattle.text.specs.Written.{filter_entries}
use Rattle.derivation.specs.declared.Bracket.TheVariants as bracket
use Rattle.derivation.proofs.Rules.{got, NotAt, term_bytes, TermReads}
use Rattle.derivation.proofs.Rules as rules
use Rattle.std.specs.Prelude.{Ok}
use Rattle.tokens.specs.Reading.{Line, one, most_open, Added, Answer, Follows, paths, terms, labels, brackets, Behind}
use Rattle.tokens.proofs.Places.{here, inside, not_at}
use Rattle.tokens.proofs.Following.{leaf_follows, Turns, turned, wrapped}

-- what is read behind a byte is read with it
from_behind : (text : Bytes) (at : ℕ) {line : Line} {wrap : line.Thing → Filter} {j k byte : ℕ} → get_or text at 0 ≡ byte → 0 < byte
    → Turns line terms wrap j k (drop (at + 1) text) (byte ∷ drop (at + 1) text)
    → Turns line terms wrap j k (drop (at + 1) text) (drop at text)
from_behind text at {line = line} {wrap = wrap} {j = j} {k = k} {byte = byte} e s t =
    rw (here text at byte e s) t

module _ {text : Bytes} {at k n : ℕ} {before : Bytes} where
  -- a term that is one byte
  letter : {byte kind : ℕ} {after : Bytes} {p : Answer} (f : Filter) → get_or text at 0 ≡ byte → 0 < byte
      → TermReads most_open k (byte ∷ drop (at + 1) text) (got f (drop (at + 1) text))
      → filter_entries n f ≡ one kind 0 0 0 → (p ≡ Ok (record { at = at + 1; count = n + 1 })) × Added before n (one kind 0 0 0) after
      → Follows terms k text at before n p after
  letter {byte = byte} f e s rd w l =
      let i : at < length text = inside text at (omega arith) in
      leaf_follows {to = at + 1} f
      (rw (here text at byte e s) rd) w (omega arith)
      (omega arith) (omega arith) l

  -- `t` holds everywhere
  pub t_follows : {after : Bytes} {p : Answer} → get_or text at 0 ≡ 116 → (p ≡ Ok (record { at = at + 1; count = n + 1 })) × Added before n (one 18 0 0 0) after
      → Follows terms k text at before n p after
  unfolding filter_entries
  t_follows e l = letter always e (omega arith) rules.letter_t refl l

  -- and `f` nowhere
  pub f_follows : {after : Bytes} {p : Answer} → get_or text at 0 ≡ 102 → (p ≡ Ok (record { at = at + 1; count = n + 1 })) × Added before n (one 19 0 0 0) after
      → Follows terms k text at before n p after
  unfolding filter_entries
  f_follows e l = letter never e (omega arith) rules.letter_f refl l

  -- `!` in front of a term
  pub not_follows : {mid after : Bytes} {p r : Answer} → get_or text at 0 ≡ 33 → Follows terms k text (at + 1) before n p mid
      → Behind 20 mid p r after → Follows terms k text at before n r after
  unfolding filter_entries
  not_follows e f b =
      wrapped not (from_behind text at e (omega arith) (record { goes = rules.exclamation; halts = rules.exclamation_stops }))
      (le-add_right at 1) (λ x. refl) (omega arith) f b

  -- `#` and a label
  pub label_follows : {after : Bytes} {p : Answer} → get_or text at 0 ≡ 35 → Follows labels 0 text (at + 1) before n p after
      → Follows terms k text at before n p after
  unfolding filter_entries
  label_follows e f =
      turned labelled (from_behind text at e (omega arith) (record { goes = rules.hash; halts = rules.hash_stops })) (le-add_right at 1)
      (λ x. refl) (omega arith) f

  -- a filter in curly brackets
  pub curly_follows : {after : Bytes} {p : Answer} → Follows (brackets bracket.Curly) k text at before n p after
      → Follows terms k text at before n p after
  curly_follows f = turned (λ x. x) (record { goes = rules.curly; halts = rules.curly }) (le_refl at) (λ x. refl) (omega arith) f

  -- any other byte begins a path
  pub leads_follows : {mid after : Bytes} {p r : Answer} → ¬ Memᴰ (get_or text at 0) term_bytes → Follows paths k text at before n p mid
      → Behind 17 mid p r after
      → Follows terms k text at before n r after
  unfolding filter_entries
  leads_follows a f b =
      let off : NotAt term_bytes (drop at text) = not_at term_bytes text at a in
      wrapped leads (record { goes = rules.a_path off; halts = rules.a_path_stops off }) (le_refl at) (λ x. refl) (omega arith) f b
