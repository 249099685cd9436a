-- `give`: the bytes of the set are copied into the room, and the set's members are counted.
use Prim.Native.Nat.{ℕ}
use mathlib.Core.Path.{◌≡◌, sym, ◌∙◌}
use borrow.Author.Rules.{rules}
use lib.ListN.{length, get_or}
use Rattle.std.proofs.lemmas.List.{length-take-le}
use mir.Val.{Fits}
use mir.Syntax.{w8, w64}
use Rattle.reply.proofs.Stores.{copied_front}
use Rattle.answer.proofs.Giving.{set_given}
use Rattle.answer.proofs.give.Goals as goal

pub copy_from_slice-requires : goal.copy_from_slice-requires
copy_from_slice-requires c =
    let bytes : length c.bytes-map.result ≡ 512 = search rules in
    length-take-le 512 c.args.room.now c.requires ∙ sym bytes

pub returns : goal.returns
returns c =
    let words : length c.args.set ≡ 64 = search rules in
    let bytes : length c.bytes-map.result ≡ 512 = search rules in
    let fits : (j : ℕ) → Fits w64 (get_or c.args.set j 0) = search rules in
    let low : (j : ℕ) → Fits w8 (get_or c.bytes-map.result j 0) = search rules in
    set_given c.args.set c.bytes-map.result words bytes fits low c.bytes-map.ensures c.count.ensures c.requires (copied_front c.args.room.now bytes c.copy_from_slice.ensures.after)
