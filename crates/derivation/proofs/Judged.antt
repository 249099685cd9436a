-- What the rules of reading come to, in the words of call 2's promise: they judge by the grammar and by the brackets. Assumes nothing.
use Prim.Native.Nat.{ℕ, suc, ◌+◌, ◌-◌, ◌≤◌, ◌<◌}
use native.Mathlib.Omega.{arith}
use mathlib.Core.Path.{◌≡◌, refl, sym, ap, ◌∙◌}
use mathlib.Core.Logic.{⊎_elim}
use mathlib.Core.List.{[], ◌∷◌, ◌++◌, append-nil}
use lib.Dec.{T}
use lib.ListN.{length, get_or, take, length-append, get_or-append}
use lib.Seq.{append_snoc, take-append-le, take_at, get_or_at}
use Rattle.reply.specs.Bytes.{Bytes}
use Rattle.query.specs.Syntax.{Path}
use Rattle.text.specs.Grammar.{PathText}
use Rattle.text.specs.Promise.{Begins, Breaks, opening, closing, how_many, OneTooMany}
use Rattle.derivation.proofs.Rules.{Result, got, stopped, PathReads}
use Rattle.derivation.proofs.Rules as rules
use Rattle.derivation.proofs.Sound.{Span, bracket, Heard, whole, begun, heard}
use Rattle.derivation.proofs.Machine.{top, State, start, depth, behind_path, Moves}
use Rattle.derivation.proofs.Led.{Here, Led, led, broke, deepened, led_chain}
use Rattle.derivation.proofs.Depth.{passes}
use Rattle.derivation.proofs.Place.{begins, breaks}

-- The text breaks at a place, and no bracket before it is one too many.
pub record BreaksFirst (text : Bytes) (i : ℕ) : Type 0 where
  pub breaks : Breaks text i
  pub shallow : (k : ℕ) → k < i → ¬ OneTooMany text k

-- The bracket at a place is the first that is one too many, and the text breaks neither there nor before it.
pub record DeepFirst (text : Bytes) (i : ℕ) : Type 0 where
  pub too_many : OneTooMany text i
  pub shallow : (k : ℕ) → k < i → ¬ OneTooMany text k
  pub unbroken : (k : ℕ) → k ≤ i → ¬ Breaks text k

-- What is true of a text that is read so.
pub data Judged (text : Bytes) : Result Path → Type 0 where
  read : {p : Path} → PathText text p → ((k : ℕ) → ¬ OneTooMany text k) → Judged text (got p [])
  not_whole : {p : Path} {c : ℕ} {more : Bytes} → BreaksFirst text (length text - suc (length more)) → Judged text (got p (c ∷ more))
  broken : {more : Bytes} → BreaksFirst text (length text - length more) → Judged text (stopped rules.broken more)
  deep : {more : Bytes} → DeepFirst text (length text - length more) → Judged text (stopped rules.deep more)

module _ {text : Bytes} {τ : State} where
  -- no bracket that the machine has passed over is one too many
  none_before : {more : Bytes} → Moves 32 start text τ more → (k : ℕ) → k < length text - length more → ¬ OneTooMany text k
  none_before {more} m k l o =
      let f = passes m in
      let size : length text ≡ length f.front + length more = ap length f.splits ∙ length-append f.front more in
      let within : k < length f.front = omega arith in
      let same : take k text ≡ take k f.front = ap (take k) f.splits ∙ take-append-le k f.front more (omega arith) in
      let byte : get_or text k 0 ≡ get_or f.front k 0 =
      ap (λ (b : Bytes). get_or b k 0) f.splits ∙ get_or-append f.front more 0 k within in
      let already_open : how_many opening (take k f.front) ≡ how_many closing (take k f.front) + 32 = rw same at o.already in
      let room = f.shallow k within (rw byte at o.bracket) in
      omega arith

  -- a bracket met while 32 are open is one too many
  one_too_many : {c : ℕ} {more : Bytes} → Moves 32 start text τ (c ∷ more) → T (opening c) → 32 ≤ depth τ
      → OneTooMany text (length text - suc (length more))
  one_too_many {c} {more} m o l =
      let f = passes m in
      let s : Bytes = f.front in
      let size : length text ≡ length s + suc (length more) = ap length f.splits ∙ length-append s (c ∷ more) in
      let i : ℕ = length text - suc (length more) in
      let reached : length s ≡ i = omega arith in
      let byte : get_or text i 0 ≡ c = ap (λ (b : Bytes). get_or b i 0) f.splits ∙ get_or_at s c more 0 i reached in
      let front : take i text ≡ s = ap (take i) f.splits ∙ take_at s (c ∷ more) i reached in
      let low : depth τ ≤ 32 = f.low (omega arith) in
      record { within = omega arith; bracket = rw byte o; already = rw front (omega (arith, f.balanced)) }

-- a text whose bracket is one too many goes on with it
module _ {text : Bytes} where
  not_broken : {p : Path} (u : Bytes) (c : ℕ) (t more : Bytes) → text ≡ u ++ c ∷ more → PathText (u ++ c ∷ t) p → (k : ℕ)
      → k ≤ length text - suc (length more) → ¬ Breaks text k
  not_broken {p} u c t more e x k l b =
      let size : length text ≡ length u + suc (length more) = ap length e ∙ length-append u (c ∷ more) in
      let begun : Begins (take (suc k) text) =
      begins {p = p} (u ++ c ∷ []) t more (e ∙ sym (append_snoc u c more)) (rw append_snoc x) (suc k) (rw length-append (omega arith)) in
      ⊎_elim (λ h. omega arith) (λ h. h.1 begun) b.stops

-- What reading says of a text, by what it comes to.
pub judged : {text : Bytes} {r : Result Path} → PathReads 32 0 text r → Judged text r
judged {text} x = go (heard x) (led_chain x top refl)
  where
    got_some : {p : Path} {τ : State} (more : Bytes) → Span PathText text p more → Moves 32 start text τ more
        → Here τ (behind_path top p) more → Judged text (got p more)
    got_some {p} [] v m h =
        read {p = p} (rw (v.splits, append-nil) v.text) (λ k o. let l : k < length text = o.within in none_before m k (omega arith) o)
    got_some {p} (c ∷ more) v m h =
        let place = breaks {p = p} v.front [] m h.now v.splits (rw append-nil v.text) in
        not_whole (record { breaks = place; shallow = none_before m })

    go : {r : Result Path} → Heard PathText text r → Led 32 start text (behind_path top) r → Judged text r
    go (whole v) (led {more = more} m h) = got_some more v m h
    go (begun u t e w a) (broke m h) = broken (record { breaks = breaks u t m h.now e w; shallow = none_before m })
    go (begun u t e w (bracket {c = c} {more = more} {t = t'})) (deepened m g o l) =
        deep (record { too_many = one_too_many m o l; shallow = none_before m; unbroken = not_broken u c t' more e w })
