-- `way_of`: the measure is the entry number.
use Rattle.evaluator.proofs.ways.+way_of.Given as goal

abbrev pub decreases-way_of : goal.decreases-way_of
decreases-way_of l = l.e
