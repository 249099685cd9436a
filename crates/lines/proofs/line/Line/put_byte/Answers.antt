-- `put_byte`: the byte is stored where there is room for it.
use native.Mathlib.Numerals.{add-one}
use native.Mathlib.Omega.{arith}
use mathlib.Core.Path.{refl, sym, ◌∙◌}
use lib.ListN.{take, length-set}
use lib.Seq.{set_split, append_snoc}
use Rattle.lines.proofs.line.Line.put_byte.Goals as goal

pub returns : goal.returns
returns c =
    let before = c.args.self.now in
    let bytes = before.out.now in
    let stored = set_split bytes before.at c.args.byte c.requires ∙ sym (append_snoc (take before.at bytes) c.args.byte _) in
    record { same = refl; long = length-set bytes before.at c.args.byte; fits = omega arith; put = record { end = refl; bytes = rw (add-one before.at) stored } }
