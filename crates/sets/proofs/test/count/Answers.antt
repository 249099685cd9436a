-- `count`: each word has at most 64 ones.
use Prim.Native.Nat.{◌<◌, ◌^◌}
use native.Mathlib.Omega.{arith}
use mathlib.Core.Path.{◌≡◌, ◌∙◌}
use borrow.Author.Rules.{rules}
use lib.Count.{ones}
use Rattle.std.specs.List.{sum_by}
use Rattle.std.proofs.iter.runs.Made.{chains}
use Rattle.sets.proofs.Words.{ones_sum}
use Rattle.sets.proofs.Size.{ones_size, size_most}
use Rattle.sets.proofs.test.count.Goals as goal

pub sum-requires-clause-fits : goal.sum-requires-clause-fits
sum-requires-clause-fits c =
    let few : sum_by ones c.args.a < 2 ^ 64 =
    omega (arith, ones_sum c.args.a, ones_size c.args.a (search rules) (λ j. search rules), size_most c.args.a) in
    search (rules, chains)

pub returns : goal.returns
returns c =
    let all : c.sum.result ≡ sum_by ones c.args.a = search (rules, chains) in
    all ∙ ones_sum c.args.a
