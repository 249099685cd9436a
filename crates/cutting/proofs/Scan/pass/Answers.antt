-- `pass`: a visible record is put behind those that stand in the room, and a hidden one leaves it as it is.
use Prim.Native.Nat.{◌+◌, ◌*◌, ◌≤◌, ◌<◌}
use native.Mathlib.Omega.{arith}
use mathlib.Core.Path.{refl, sym, subst}
use lib.Dec.{T}
use lib.ListN.{length}
use Rattle.roll.proofs.Records.{count_nodes}
use Rattle.roll.proofs.Deciding.{roll_in_order, roll_most}
use Rattle.view.proofs.Positions.{before_most}
use Rattle.cutting.proofs.Scanning.{seen_scanned, hidden_scanned}
use Rattle.cutting.proofs.Scan.pass.Goals as goal
use Rattle.cutting.proofs.Scan.pass.Goals.{Start}

-- the record is one of 4,096, no more are written than were passed, and there is room for one more
bounds : (c : Start) → (c.args.i < 4096) × (c.args.self.now.written ≤ c.args.i) × (4 * (c.args.self.now.written + 1) ≤ length c.args.self.now.room.now)
bounds c =
    let (right, top, fits) = c.requires.roll in
    let node = c.requires.i_in_bounds in
    let few = before_most c.requires.scanned.is.size in
    let count = c.requires.scanned.count in
    let most = roll_most right in
    (omega arith, omega arith, omega (arith, count_nodes c.args.roll.now))

pub has-requires : goal.has-requires
has-requires c = omega (arith, bounds (goal.at.has-requires c).Start)

pub put-requires : goal.put-requires
put-requires c = omega (arith, bounds (goal.at.put-requires c).Start)

pub overflow_cast-self : goal.overflow_cast-self
overflow_cast-self c = omega (arith, bounds (goal.at.overflow_cast-self c).Start)

pub offset_bounds-self-i : goal.offset_bounds-self-i
offset_bounds-self-i c = omega (arith, bounds (goal.at.offset_bounds-self-i c).Start)

pub bounds-self-i : goal.bounds-self-i
bounds-self-i c = omega (arith, bounds (goal.at.bounds-self-i c).Start)

pub overflow_add-self : goal.overflow_add-self
overflow_add-self c = omega (arith, bounds (goal.at.overflow_add-self c).Start)

pub returns-then-has : goal.returns-then-has
returns-then-has c =
    let (right, top, fits) = c.requires.roll in
    let node = c.requires.i_in_bounds in
    let so_far = c.requires.scanned in
    let is_seen = c.has.ensures.0 (subst T (sym c.if-has.true) tt) in
    let inside : c.args.i < length c.args.self.now.places = omega (arith, bounds (goal.at.returns-then-has c).Start) in
    let place = c.parent_place-parent.ensures.0 in
    let stored = rw c.label_at.ensures at c.put.ensures in
    record { scanned_2 = seen_scanned (roll_in_order right) top node inside so_far place is_seen stored; rest = record { same = refl; long = c.put.auto.room; behind = stored.behind } }

pub offset_bounds-self-i-2 : goal.offset_bounds-self-i-2
offset_bounds-self-i-2 c = omega (arith, bounds (goal.at.offset_bounds-self-i-2 c).Start)

pub bounds-self-i-2 : goal.bounds-self-i-2
bounds-self-i-2 c = omega (arith, bounds (goal.at.bounds-self-i-2 c).Start)

pub returns : goal.returns
returns c =
    let (right, top, fits) = c.requires.roll in
    let node = c.requires.i_in_bounds in
    let so_far = c.requires.scanned in
    let inside : c.args.i < length c.args.self.now.places = omega (arith, bounds (goal.at.returns c).Start) in
    let place = c.parent_place-parent.ensures.0 in
    record { scanned_2 = hidden_scanned (roll_in_order right) top node inside so_far place (λ x. subst T c.if-has.false (c.has.ensures.1 x)); rest = record { same = refl; long = refl; behind = refl } }
