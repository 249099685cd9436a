-- `read_by`: each of the ways in which a text is read comes out as call 2 promises, where its length is right.
use Prim.Native.Nat.{ℕ, ◌≤◌}
use native.Mathlib.Omega.{arith}
use mathlib.Core.Path.{◌≡◌, ap, ◌∙◌}
use Rattle.reply.specs.Bytes.{Bytes}
use Rattle.std.specs.Prelude.{Err}
use Rattle.tokens.specs.declared.answer.Stopped.TheVariants.{Broken, Deep}
use Rattle.derivation.proofs.Mistakes.{PlainBelow}
use Rattle.reader.proofs.Answering.{slip_told, broken_told, deep_told, text_told}
use Rattle.reader.proofs.read_by.Goals as goal
use Rattle.reader.proofs.read_by.Goals.{In-Ok}

-- where no star stands behind a star before a place, none does before a place that is not behind it
plain : {text : Bytes} {end place : ℕ} → PlainBelow text end → place ≤ end → PlainBelow text place
plain p l k h = p k (omega arith)

pub returns-in-Some : goal.returns-in-Some
returns-in-Some c =
    let given = c.requires in
    slip_told _ _ given.2 given.0 c.read_whole-parsed.ensures (rw c.reached-end.ensures at c.in-Some.ensures) c.refuse.ensures

pub returns-in-Ok : goal.returns-in-Ok
returns-in-Ok c =
    let given = c.requires in
    text_told _ _ given.2 given.0 c.in-Ok.ensures (plain c.in_default.ensures (omega (arith, rw c.in-Ok.is at c.reached-end.ensures)))
    c.write_out.ensures

pub returns-in-Err-Broken : goal.returns-in-Err-Broken
returns-in-Err-Broken c =
    let given = c.requires in
    let f : c.in-Err-Broken.field-0 ≡ Broken c.in-Err-Broken.at = rw c.in-Err-Broken.is at c.in-Err-Broken.field-0-is in
    let is : c.read_whole-parsed.result ≡ Err (Broken c.in-Err-Broken.at) = c.in-Err-Broken.is ∙ ap Err f in
    broken_told _ _ given.2 given.0 (rw is at c.read_whole-parsed.ensures)
    (plain c.in_default.ensures (omega (arith, rw is at c.reached-end.ensures))) c.refuse-in-Err-Broken.ensures

pub returns-in-Err-Deep : goal.returns-in-Err-Deep
returns-in-Err-Deep c =
    let given = c.requires in
    let f : c.in-Err-Deep.field-0 ≡ Deep c.in-Err-Deep.at = rw c.in-Err-Deep.is at c.in-Err-Deep.field-0-is in
    let is : c.read_whole-parsed.result ≡ Err (Deep c.in-Err-Deep.at) = c.in-Err-Deep.is ∙ ap Err f in
    deep_told _ _ given.2 given.0 (rw is at c.read_whole-parsed.ensures)
    (plain c.in_default.ensures (omega (arith, rw is at c.reached-end.ensures))) c.refuse-in-Err-Deep.ensures
