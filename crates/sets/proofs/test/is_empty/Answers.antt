-- `is_empty`: the words or-ed together are 0 exactly if each of them is.
use mathlib.Core.Path.{◌≡◌, refl}
use mathlib.Core.Logic.Iff
use borrow.Author.Rules.{rules}
use lib.Bits.{bit_or}
use Rattle.std.specs.List.{fold}
use Rattle.std.proofs.iter.runs.Made.{chains}
use Rattle.tree.proofs.Tests.{equal_test}
use Rattle.sets.proofs.Words.{none_of, no_member}
use Rattle.sets.proofs.test.is_empty.Goals as goal

pub returns : goal.returns
returns c =
    let all : c.fold.result ≡ fold bit_or 0 c.args.a = search (rules, chains) in
    let none = Iff.trans (none_of c.args.a 0) (λ h. h.1, λ none. (refl, none)) in
    Iff.trans (equal_test c.fold.result 0).exact (rw all (Iff.trans none (no_member c.args.a (λ j. search rules))))
