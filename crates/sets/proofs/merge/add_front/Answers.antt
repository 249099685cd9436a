-- `sets::merge::add_front`: behind the other set an or keeps what it is given.
use Prim.Native.Nat.{ℕ, ◌≤◌, ◌<◌}
use mathlib.Core.Path.{◌≡◌, sym, ◌∙◌}
use mathlib.Core.Logic.{⊎_elim}
use lib.ListN.{get_or}
use lib.Bits.{bit_or}
use borrow.Author.Rules.{rules}
use Rattle.std.specs.Int.Bits.{or_zero_r}
use Rattle.sets.proofs.Merging.{either, made_sets}
use Rattle.sets.proofs.Words.{no_word}
use Rattle.sets.proofs.merge.add_front.Goals as goal

pub returns : goal.returns
returns c =
    let stays : (j : ℕ) → c.args.words ≤ j → get_or c.args.set.now j 0 ≡ bit_or (get_or c.args.set.now j 0) (get_or c.args.other.now j 0) =
    λ j past. let none = no_word c.args.other.now c.args.words j c.requires (c.fits-other j) past in sym (rw none (or_zero_r _)) in
    let made : (j : ℕ) → j < 64 → get_or c.merge_front.new.set j 0 ≡ bit_or (get_or c.args.set.now j 0) (get_or c.args.other.now j 0) =
    λ j l. ⊎_elim (λ h. search rules) (λ (past, e). e ∙ stays j past) (c.merge_front.ensures j l) in
    made_sets either c.args.set.now c.args.other.now _ c.told-set c.told-other c.merge_front.array_long c.fits-other made
