-- `sets::merge::take_front`: behind the set there is nothing to take away from.
use Prim.Native.Nat.{ℕ, ◌≤◌, ◌<◌}
use mathlib.Core.Path.{◌≡◌, sym, ◌∙◌}
use mathlib.Core.Logic.{⊎_elim}
use lib.ListN.{get_or}
use lib.Bits.{bit_and}
use borrow.Author.Rules.{rules}
use mir.Syntax.{w64}
use Rattle.std.specs.Int.{bit_not}
use Rattle.std.specs.Int.Bits.{and_zero_l}
use Rattle.sets.proofs.Merging.{first, made_sets}
use Rattle.sets.proofs.Words.{no_word}
use Rattle.sets.proofs.merge.take_front.Goals as goal

pub returns : goal.returns
returns c =
    let stays : (j : ℕ) → c.args.words ≤ j → get_or c.args.set.now j 0 ≡ bit_and (get_or c.args.set.now j 0) (bit_not w64 (get_or c.args.other.now j 0)) =
    λ j past. let none = no_word c.args.set.now c.args.words j c.requires (c.fits-set j) past in rw none (sym (and_zero_l (bit_not w64 (get_or c.args.other.now j 0)))) in
    let made : (j : ℕ) → j < 64 → get_or c.merge_front.new.set j 0 ≡ bit_and (get_or c.args.set.now j 0) (bit_not w64 (get_or c.args.other.now j 0)) =
    λ j l. ⊎_elim (λ h. search rules) (λ (past, e). e ∙ stays j past) (c.merge_front.ensures j l) in
    made_sets first c.args.set.now c.args.other.now _ c.told-set c.told-other c.merge_front.array_long c.fits-other made
