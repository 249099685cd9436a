-- Labels are read by the rules: one digit or two. Assumes nothing.
use Prim.Native.Nat.{ℕ, ◌+◌, ◌*◌, ◌≤◌, ◌<◌}
use native.Mathlib.Omega.{arith}
use mathlib.Core.Path.{◌≡◌, refl, ap, ◌∙◌}
use mathlib.Core.Logic.{◌⊎◌, inl, inr}
use mathlib.Core.List.{◌∷◌}
use lib.ListN.{length, get_or, drop}
use Rattle.reply.specs.Bytes.{Bytes}
use Rattle.derivation.proofs.Rules.{got, NoSecond, NoDigit, LabelReads, one_digit, two_digits, no_digit}
use Rattle.derivation.proofs.Rules as rules
use Rattle.tokens.specs.Label.{DigitOf, digit, too_low, too_high, LabelAt, number, nothing}
use Rattle.tokens.specs.declared.label.Label.{Label}
use Rattle.std.specs.Prelude.{Some, None, Ok, Err}
use Rattle.tokens.specs.declared.answer.Stopped.TheVariants.{Broken}
use Rattle.tokens.specs.Reading.{one, Added, Answer, Follows, stops, labels}
use Rattle.tokens.proofs.Following.{leaf_follows}
use Rattle.tokens.proofs.Places.{here, inside, unread}

-- a digit's value
pub a_digit : {c d : ℕ} → DigitOf c (Some d) → (d ≤ 9) × (c ≡ 48 + d)
a_digit (digit l e) = (l, e)

-- a byte that is no digit, or 0, is no digit from 1 to 9
not_a_first : {c : ℕ} (b : Bytes) → DigitOf c None ⊎ DigitOf c (Some 0) → NoDigit (c ∷ b)
not_a_first {c} b (inl (too_low l)) = let w : c < 49 = omega arith in rules.NoDigit.too_low w
not_a_first b (inl (too_high l)) = rules.NoDigit.too_high l
not_a_first {c} b (inr (digit l e)) = let w : c < 49 = omega arith in rules.NoDigit.too_low w

-- the byte is no digit, or one that makes too large a label with d
abbrev pub NotSecond : ℕ → ℕ → Type 0
NotSecond d c = DigitOf c None ⊎ ((e : ℕ) × DigitOf c (Some e) × (64 < 10 * d + e))

-- it is no second digit
not_a_second : {c : ℕ} (d : ℕ) (b : Bytes) → NotSecond d c → NoSecond d (c ∷ b)
not_a_second d b (inl (too_low l)) = rules.NoSecond.too_low l
not_a_second d b (inl (too_high l)) = rules.NoSecond.too_high l
not_a_second d b (inr (e, digit l q, z)) = rw q (rules.NoSecond.too_large l z)

module _ (text : Bytes) (at : ℕ) where
  -- no label is read
  pub no_label : DigitOf (get_or text at 0) None ⊎ DigitOf (get_or text at 0) (Some 0) → LabelAt text at None
  no_label h = nothing (no_digit (unread NoDigit text at rules.NoDigit.ended (λ b. not_a_first b h)))

  module _ (d : ℕ) (h : DigitOf (get_or text at 0) (Some d)) (some : d ≡ 0 → ⊥) where
    -- the first digit
    first : drop at text ≡ (48 + d) ∷ drop (at + 1) text
    first = here text at (48 + d) (a_digit h).1 (omega arith)

    -- it is a byte of the text
    first_inside : at < length text
    first_inside = let e = (a_digit h).1 in inside text at (omega arith)

    -- one digit is read
    pub one_read : NotSecond d (get_or text (at + 1) 0) → LabelAt text at (Some (record { value = d; next = at + 1 }))
    one_read g =
        let l = (a_digit h).0 in
        let i = first_inside in
        let more : NoSecond d (drop (at + 1) text) = unread (NoSecond d) text (at + 1) rules.NoSecond.ended (λ b. not_a_second d b g) in
        number {l = record { value = d; next = at + 1 }} (rw first (one_digit {d = d} (omega arith) l more))
        (omega arith) (omega arith)

    -- two digits are read
    pub two_read : (e : ℕ) → DigitOf (get_or text (at + 1) 0) (Some e) → 10 * d + e ≤ 64
        → LabelAt text at (Some (record { value = 10 * d + e; next = at + 2 }))
    two_read e g z =
        let i = first_inside in
        let small = (a_digit g).0 in
        let c = (a_digit g).1 in
        let second : drop (at + 1) text ≡ (48 + e) ∷ drop (at + 1 + 1) text = here text (at + 1) (48 + e) c (omega arith) in
        let next : at + 1 + 1 ≡ at + 2 = omega arith in
        let both : drop at text ≡ (48 + d) ∷ (48 + e) ∷ drop (at + 2) text =
        first ∙ ap (λ (b : Bytes). (48 + d) ∷ b) (second ∙ ap (λ (k : ℕ). (48 + e) ∷ drop k text) next) in
        let j : at + 1 < length text = inside text (at + 1) (omega arith) in
        number {l = record { value = 10 * d + e; next = at + 2 }}
        (rw both (two_digits {d = d} {e = e} (omega arith) (omega arith) z))
        (omega arith) (omega arith)

-- What was found at the place of a label.
module _ {text : Bytes} {at : ℕ} where
  -- there is none
  pub not_numbered : {before after : Bytes} {n : ℕ} → LabelAt text at None → at ≤ length text
      → Follows labels 0 text at before n (Err (Broken at)) after
  not_numbered (nothing rd) l = stops rd l

  module _ {label : Label} where
    -- there is one, and the text is longer
    pub numbered : LabelAt text at (Some label)
        → LabelReads (drop at text) (got label.value (drop label.next text)) × (at < label.next) × (label.next ≤ length text)
    numbered (number rd l i) = (rd, l, i)

    -- its entry is written
    pub number_follows : {before after : Bytes} {n : ℕ} {p : Answer} → LabelAt text at (Some label)
        → (p ≡ Ok (record { at = label.next; count = n + 1 })) × Added before n (one 16 label.value 0 0) after
        → Follows labels 0 text at before n p after
    number_follows h w =
        let (rd, l, i) = numbered h in
        leaf_follows {to = label.next} label.value rd refl (omega arith) l i w
