-- The lines in front of the input are answered one after the other. Assumes nothing.
use Prim.Native.Nat.{ℕ, suc, ◌+◌, ◌-◌, ◌≤◌, ◌<◌, zero-le}
use native.Mathlib.Omega.{arith}
use mathlib.Core.Path.{◌≡◌, refl, sym, ap, ◌∙◌, subst}
use mathlib.Core.Logic.{inl, inr, ⊎_elim}
use mathlib.Core.List.Memᴰ
use mathlib.Core.List.{[], ◌∷◌, ◌++◌, append_assoc, Memᴰ}
use lib.ListN.{length, take, drop, length-append, length-drop, drop_of_length-le}
use lib.Seq.{length-take-le, take_all, take-add, take-append-add, take-append-le, take_at}
use borrow.Rule.Slice.PartMut.{mid_of, post_of, put_mid, mid_len, same_len_mid}
use Rattle.memchr.specs.Find.{Passes, Nowhere, NoneBefore, is_byte}
use Rattle.reply.specs.Bytes.{Bytes}
use Rattle.lines.specs.Line.{longest}
use Rattle.draw.specs.Drawn.{Drawn, none, one_more}
use Rattle.draw.specs.Inner.{LineWritten, LinesAnswered}
use Rattle.draw.proofs.Finding.{none_before, none_at_all, up_to}

-- so far: `read` bytes are answered, `written` bytes are written, and there are as many bytes for the output as before
pub record Going (Line : Bytes → Bytes → Type 0) (input before : Bytes) (read written : ℕ) (output : Bytes) : Type 0 where
  pub within : read ≤ length input
  pub fits : written ≤ length output
  pub long : length output ≡ length before
  pub drawn : Drawn Line (take read input) (take written output)

module _ {Line : Bytes → Bytes → Type 0} where
  pub at_first : (input before : Bytes) → Going Line input before 0 0 before
  at_first input before = record { within = zero-le; fits = zero-le; long = refl; drawn = none }

  module _ {input before output : Bytes} {read written : ℕ} (g : Going Line input before read written output) where
    -- what is left of the input
    abbrev tail : Bytes
    tail = take (length input - read) (drop read input)

    tail_is : tail ≡ drop read input
    tail_is = take_all (length input - read) (drop read input) (omega (arith, length-drop read input))

    -- the search finds no line feed in it
    pub no_line : Nowhere (Passes (is_byte 10) tail) 0 (length tail) → LinesAnswered Line input read written output
    no_line absent = record {
      within = g.within;
      fits = g.fits;
      drawn = g.drawn;
      ends = inl (none_at_all 10 (drop read input) (subst (λ (b : Bytes). Nowhere (Passes (is_byte 10) b) 0 (length b)) tail_is absent));
    }

    -- there is no more room
    pub no_room : length output - written < longest → LinesAnswered Line input read written output
    no_room l = record { within = g.within; fits = g.fits; drawn = g.drawn; ends = inr (omega (arith, g.fits)) }

    -- a line is answered, in the part of the output that is left
    pub one_line : {n c : ℕ} {part : Bytes} → NoneBefore (Passes (is_byte 10) tail) 0 (length tail) n × Passes (is_byte 10) tail n
        → LineWritten (Line (take (read + n - read) (drop read input))) (mid_of written (length output - written) output) c part
        → Going Line input before (read + n + 1) (written + c) (put_mid written (length output - written) output part)
    one_line {n} {c} {part} found w = record {
      within = omega (arith, there, length-drop read input);
      fits = omega (arith, same, w.written.room, w.count, mid_len written (length output) output (omega arith), g.fits);
      long = same ∙ g.long;
      drawn = subst (λ (b : Bytes). Drawn Line b (take (written + c) after)) (sym up_to_end)
          (subst (λ (b : Bytes). Drawn Line (take read input ++ text ++ 10 ∷ []) b) (sym up_to_line)
          (one_more g.drawn no_feed w.right));
    }
      where
        left : ℕ
        left = length output - written

        after : Bytes
        after = put_mid written (length output - written) output part

        line : Bytes
        line = w.line

        rest : Bytes
        rest = drop (length w.line) (mid_of written (length output - written) output)

        text : Bytes
        text = take (read + n - read) (drop read input)

        ahead : read + n - read ≡ n
        ahead = omega arith

        there : n < length (drop read input)
        there = rw (← tail_is) found.0.high

        no_feed : ¬ Memᴰ 10 text
        no_feed =
            rw ahead
            (none_before 10 (drop read input) n (subst (λ (b : Bytes). Nowhere (Passes (is_byte 10) b) 0 n) tail_is found.0.before))

        -- the input up to the line feed
        up_to_end : take (read + n + 1) input ≡ take read input ++ text ++ 10 ∷ []
        up_to_end =
            let here = drop read input in
            let next : read + n + 1 ≡ read + suc n = omega arith in
            ap (λ (k : ℕ). take k input) next ∙ take-add read (suc n) input
            ∙ ap (λ (b : Bytes). take read input ++ b)
            (up_to 10 here n there (subst (λ (b : Bytes). Passes (is_byte 10) b n) tail_is found.1))
            ∙ sym (append_assoc (take read input) (take n here) (10 ∷ []))
            ∙ ap (λ (k : ℕ). take read input ++ take k here ++ 10 ∷ []) (sym ahead)

        -- the part is as long as it was, and so is the output
        whole : length part ≡ length line + length rest
        whole = ap length w.written.bytes ∙ length-append line rest

        same : length after ≡ length output
        same =
            same_len_mid written left output part
            (whole ∙ omega (arith, w.written.room, length-drop (length line) (mid_of written left output)))

        -- the output up to the end of the line
        up_to_line : take (written + c) after ≡ take written output ++ line
        up_to_line =
            let post = post_of written left output in
            let front = length-take-le written output g.fits in
            ap (λ (n : ℕ). take (n + c) after) (sym front) ∙ take-append-add (take written output) (part ++ post) c
            ∙ ap (λ (b : Bytes). take written output ++ b)
            (take-append-le c part post (omega (arith, whole, w.count)) ∙ ap (take c) w.written.bytes
            ∙ take_at line rest c (sym w.count))

  -- ---- where nothing is answered, no line ends

  -- nothing is written for nothing
  nothing_written : (b : Bytes) {w : Bytes} → Drawn Line b w → b ≡ [] → w ≡ []
  nothing_written b none e = refl
  nothing_written b (one_more {read} {text = text} d no_feed right) e =
      absurd (omega (arith, ap length e, length-append (read ++ text) (10 ∷ [])))

  pub no_line_ends : {input output : Bytes} {read written : ℕ} → LinesAnswered Line input read written output → read ≡ 0
      → longest ≤ length output → ¬ Memᴰ 10 input
  no_line_ends {input} {output} {read} {written} a e room =
      ⊎_elim (subst (λ (n : ℕ). ¬ Memᴰ 10 (drop n input)) e) (λ full. absurd (omega (arith, zero_written))) a.ends
    where
      empty : take written output ≡ []
      empty = nothing_written (take read input) a.drawn (ap (λ (n : ℕ). take n input) e)

      zero_written : written ≡ 0
      zero_written = sym (length-take-le written output a.fits) ∙ ap length empty

  -- the same of a part that goes to the end of the input
  pub none_behind : (input : Bytes) (at : ℕ) {output : Bytes} {read written : ℕ}
      → LinesAnswered Line (take (length input - at) (drop at input)) read written output
      → read ≡ 0 → longest ≤ length output → ¬ Memᴰ 10 (drop at input)
  none_behind input at a e room =
      subst (λ (b : Bytes). ¬ Memᴰ 10 b) (take_all (length input - at) (drop at input) (omega (arith, length-drop at input)))
      (no_line_ends a e room)

-- nothing is behind the end of the input
pub at_the_end : (input : Bytes) (at : ℕ) → length input ≤ at → ¬ Memᴰ 10 (drop at input)
at_the_end input at l = subst (λ (b : Bytes). ¬ Memᴰ 10 b) (sym (drop_of_length-le input l)) Memᴰ.not-nil
