-- The place of a text that breaks: where reading stops at a byte that the grammar does not take, no text begins so, and before it one does.
-- Assumes nothing.
use Prim.Native.Nat.{ℕ, suc, ◌+◌, ◌-◌, ◌≤◌, ◌<◌}
use native.Mathlib.Omega.{arith}
use mathlib.Core.Path.{◌≡◌, refl, sym, ap, ◌∙◌}
use mathlib.Core.Logic.{◌⊎◌, inl, inr}
use mathlib.Core.List.{[], ◌∷◌, ◌++◌, append_assoc}
use lib.ListN.{length, take, drop, length-append, take-append-drop}
use lib.Seq.{append_snoc, take-append-le, take_at}
use Rattle.reply.specs.Bytes.{Bytes}
use Rattle.query.specs.Syntax.{Path}
use Rattle.text.specs.Grammar.{PathText}
use Rattle.text.specs.Promise.{Begins, Breaks}
use Rattle.derivation.proofs.Machine.{State, start, Next, stuck, goes, finished, look, offer, Moves, stays, moves}
use Rattle.derivation.proofs.Depth.{look_ahead, passes, text_led}

-- How far the machine goes: what it finds there, and the text left.
data Halt : Type 0 where
  halts : Next → Bytes → Halt

-- by what each state takes
run : State → Bytes → Halt
run σ [] = halts (look (offer σ) []) []
run σ (c ∷ b) = elim (look (offer σ) (c ∷ b)) [ stuck ↦ halts stuck (c ∷ b) | goes τ ↦ run τ b | finished p ↦ halts (finished p) (c ∷ b) ]

-- moves do not change where it halts
run_moves : {limit : ℕ} {σ τ : State} {b more : Bytes} → Moves limit σ b τ more → run σ b ≡ run τ more
unfolding run
run_moves stays = refl
run_moves (moves e l x) = rw (e, run) (run_moves x)

-- a stuck state is a halt
run_stuck : (σ : State) (b : Bytes) → look (offer σ) b ≡ stuck → run σ b ≡ halts stuck b
unfolding run
run_stuck σ [] e = rw e
run_stuck σ (c ∷ b) e = rw (e, run)

-- the machine goes to the end of a text of the grammar, and finds its path
text_runs : {s : Bytes} {p : Path} → PathText s p → run start s ≡ halts (finished p) []
unfolding run
text_runs x = let reached = text_led x in run_moves reached.path ∙ ap (λ (n : Next). halts n []) reached.found

-- the grammar gives a text at most one path
pub path_unique : (text : Bytes) (p q : Path) → PathText text p → PathText text q → p ≡ q
path_unique text p q x y =
    let e : halts (finished p) [] ≡ halts (finished q) [] = sym (text_runs x) ∙ text_runs y in
    cc

-- what is begun begins as far as it goes
pub begins : {text : Bytes} {p : Path} (u t more : Bytes) → text ≡ u ++ more → PathText (u ++ t) p → (k : ℕ) → k ≤ length u
    → Begins (take k text)
unfolding Begins
begins {text} {p} u t more e x k l = (drop k u ++ t, p, rw (e, take-append-le k u more l, ← append_assoc, take-append-drop) x)

module _ {limit : ℕ} {τ : State} where
  -- no path has a text that the machine does not take
  stuck_no_path : {text more : Bytes} → Moves limit start text τ more → look (offer τ) more ≡ stuck → (p : Path) → ¬ PathText text p
  stuck_no_path {more = more} m e p x =
      let same : halts (finished p) [] ≡ halts stuck more = sym (text_runs x) ∙ run_moves m ∙ run_stuck τ more e in
      let z : ◌≡◌ {A = ℕ} 0 1 = cc in
      omega arith

  -- and with the byte that it does not take no text begins
  stuck_stops : (text more : Bytes) → Moves limit start text τ more → look (offer τ) more ≡ stuck
      → let i : ℕ = length text - length more in (i ≡ length text) ⊎ ((i < length text) × ¬ Begins (take (suc i) text))
  unfolding Begins
  stuck_stops text [] m e = inl (omega arith)
  stuck_stops text (c ∷ rest) m e =
      let f = passes m in
      let s : Bytes = f.front in
      let long : length text ≡ length s + suc (length rest) = ap length f.splits ∙ length-append s (c ∷ rest) in
      let i : ℕ = length text - suc (length rest) in
      let size : length (s ++ c ∷ []) ≡ suc i = omega (arith, length-append s (c ∷ [])) in
      let next : take (suc i) text ≡ s ++ c ∷ [] =
      ap (take (suc i)) (f.splits ∙ sym (append_snoc s c rest)) ∙ take_at (s ++ c ∷ []) rest (suc i) size in
      inr (omega arith, λ b. stuck_no_path (f.again (c ∷ b.0)) (look_ahead (offer τ) c b.0 rest ∙ e) b.1 (rw (next, append_assoc) at b.2))

  -- The machine is stuck, and what it has passed over begins a text: this is the place.
  pub breaks : {text more : Bytes} {p : Path} (u t : Bytes) → Moves limit start text τ more → look (offer τ) more ≡ stuck → text ≡ u ++ more
      → PathText (u ++ t) p → Breaks text (length text - length more)
  breaks {text} {more} u t m e s x =
      let long : length text ≡ length u + length more = ap length s ∙ length-append u more in
      record { no_path = stuck_no_path m e; before = λ k l. begins u t more s x (suc k) (omega arith); stops = stuck_stops text more m e }
