-- `steps::star::waiting`: what is in the set and a source, and has not been gone on from, digit by digit.
use borrow.Author.Rules.{rules}
use mir.Syntax.{w64}
use mir.Val.{Fits}
use mir.Facts.{Fits-and}
use lib.ListN.{get_or}
use Rattle.steps.proofs.Going.{waiting_word}
use Rattle.steps.proofs.star.waiting.Goals as goal

pub returns : goal.returns
returns c =
    let a = c.args in
    let of_gone : Fits w64 (get_or a.gone.now a.w 0) = search rules in
    let of_set : Fits w64 (get_or a.set.now a.w 0) = search rules in
    record {
      each = λ k l. waiting_word a.set.now a.sources.now a.gone.now a.w k of_gone.fits l;
      fits = (Fits-and _ (Fits-and _ of_set)).fits;
    }
