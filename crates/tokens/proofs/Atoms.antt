-- Atoms: by the byte at the place, an axis, a bracket, or none. Assumes nothing.
use Prim.Native.Nat.{ℕ, ◌+◌, ◌≤◌, ◌<◌}
use native.Mathlib.Omega.{arith}
use native.Mathlib.Nat.{le_refl}
use mathlib.Core.Path.{◌≡◌, refl}
use mathlib.Core.Logic.{⊎_elim}
use mathlib.Core.List.Memᴰ
use mathlib.Core.List.{[], ◌∷◌, Memᴰ}
use lib.ListN.{length, get_or, drop}
use Rattle.reply.specs.Bytes.{Bytes}
use Rattle.query.specs.Syntax.{Path, self, child, parent, next, previous, stay}
use Rattle.text.specs.Written.{path_entries}
use Rattle.derivation.specs.declared.Bracket.TheVariants as bracket
use Rattle.derivation.proofs.Rules.{got, atom_bytes, AtomReads}
use Rattle.derivation.proofs.Rules as rules
use Rattle.std.specs.Prelude.{Some, None, Ok, Err}
use Rattle.tables.specs.declared.kinds.Kind.{Kind}
use Rattle.tables.specs.Kind.{number}
use Rattle.tokens.specs.declared.answer.Stopped.TheVariants.{Broken}
use Rattle.tokens.specs.Reading.{one, most_open, Added, Answer, Follows, stops, atoms, brackets, Behind, AxisOf, dot, letter_v}
use Rattle.tokens.specs.Reading.{caret, greater, less, no_axis}
use Rattle.tokens.proofs.Places.{here, inside, not_at, nor, none_of}
use Rattle.tokens.proofs.Following.{leaf_follows, turned, wrapped}

-- an axis of a kind is read as its one byte, and written as one entry
axis : (n k : ℕ) {byte : ℕ} {kind : Kind} {b : Bytes} → AxisOf byte (Some kind)
    → (x : Path) × AtomReads most_open k (byte ∷ b) (got x b) × (path_entries n x ≡ one (number kind) 0 0 0) × (0 < byte)
unfolding path_entries
axis n k (dot e) = (self, rw e rules.dot, refl, omega arith)
axis n k (letter_v e) = (child, rw e rules.letter_v, refl, omega arith)
axis n k (caret e) = (parent, rw e rules.caret, refl, omega arith)
axis n k (greater e) = (next, rw e rules.greater, refl, omega arith)
axis n k (less e) = (previous, rw e rules.less, refl, omega arith)

-- a byte that is neither a bracket nor an axis begins no atom
none : {byte : ℕ} → (byte ≡ 91 → ⊥) → (byte ≡ 40 → ⊥) → AxisOf byte None → ¬ Memᴰ byte atom_bytes
none s r (no_axis a) m = ⊎_elim a (nor s (nor r none_of)) (Memᴰ.append_cases (46 ∷ 118 ∷ 94 ∷ 62 ∷ 60 ∷ []) m)

module _ {text : Bytes} {at k n : ℕ} {before : Bytes} where
  -- a square bracket, and the entry behind its filter
  pub square_follows : {mid after : Bytes} {p r : Answer} → Follows (brackets bracket.Square) k text at before n p mid
      → Behind 6 mid p r after
      → Follows atoms k text at before n r after
  unfolding path_entries
  square_follows f b = wrapped stay (record { goes = rules.square; halts = rules.square_stops }) (le_refl at) (λ x. refl) (omega arith) f b

  -- a round bracket
  pub round_follows : {after : Bytes} {p : Answer} → Follows (brackets bracket.Round) k text at before n p after
      → Follows atoms k text at before n p after
  round_follows f = turned (λ x. x) (record { goes = rules.round; halts = rules.round }) (le_refl at) (λ x. refl) (omega arith) f

  -- an axis
  pub axis_follows : {kind : Kind} {after : Bytes} {p : Answer} → AxisOf (get_or text at 0) (Some kind)
      → (p ≡ Ok (record { at = at + 1; count = n + 1 })) × Added before n (one (number kind) 0 0 0) after
      → Follows atoms k text at before n p after
  axis_follows a l =
      let (x, rd, w, s) = axis n k {b = drop (at + 1) text} a in
      let i : at < length text = inside text at s in
      leaf_follows {to = at + 1} x
      (rw (here text at (get_or text at 0) refl s) rd) w
      (omega arith) (omega arith) (omega arith) l

  -- no atom
  pub no_atom : {after : Bytes} → at ≤ length text → (get_or text at 0 ≡ 91 → ⊥) → (get_or text at 0 ≡ 40 → ⊥)
      → AxisOf (get_or text at 0) None
      → Follows atoms k text at before n (Err (Broken at)) after
  no_atom l s r a = stops (rules.no_atom (not_at atom_bytes text at (none s r a))) l
