-- `label_fits`: what is tested is the record's label.
use Rattle.roll.proofs.scan.label_fits.Goals as goal

pub returns : goal.returns
returns c = rw c.label_at.ensures at c.is_label.ensures
