-- `sets::merge::union`: what is in either set, word by word.
use Prim.Native.Nat.{ℕ, ◌<◌}
use mathlib.Core.Path.{◌≡◌}
use lib.ListN.{get_or}
use lib.Bits.{bit_or}
use borrow.Author.Rules.{rules}
use Rattle.sets.proofs.Merging.{either, made_sets}
use Rattle.sets.proofs.merge.union.Goals as goal

pub returns : goal.returns
returns c =
    let made : (j : ℕ) → j < 64 → get_or c.merge_into.new.set j 0 ≡ bit_or (get_or c.args.a j 0) (get_or c.args.b j 0) = λ j l. let h = c.merge_into.ensures j l in search rules in
    made_sets either c.args.a c.args.b _ (search rules) (search rules) c.merge_into.array_long (λ j. search rules) made
