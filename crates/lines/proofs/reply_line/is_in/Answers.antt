-- `is_in`: the bit of weight 2^(k mod 8) in byte k div 8.
use mathlib.Core.Path.{refl}
use Rattle.answer.specs.Bitmap.{bit}
use Rattle.lines.proofs.reply_line.is_in.Goals as goal

pub returns : goal.returns
unfolding bit
returns c = refl
