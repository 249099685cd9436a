-- `show` has an arm for each kind, whose operands are held in their turn; `hold` is the entry's text, in brackets where it is looser than
-- asked for.
use Prim.Native.Nat.{ℕ, ◌≤◌, ◌<◌}
use native.Mathlib.Omega.{arith}
use mathlib.Core.Path.{◌≡◌, refl}
use Rattle.reply.specs.Bytes.{Bytes}
use Rattle.query.specs.Kind.{kinds, find}
use Rattle.query.specs.Table.{build}
use Rattle.shortest.proofs.Shown.{path_shown, filter_shown}
use Rattle.printer.specs.Printing.{HasEntry}
use Rattle.printer.proofs.Going.{and_then, too_long}
use Rattle.tables.proofs.Found.{found_is, kind_found}
use Rattle.printer.proofs.Made.{kind_is, held_bare, held_between}
use Rattle.printer.proofs.Made.{then_shown, either_shown, and_shown, or_shown, stay_shown, star_shown, label_shown_lem, leads_shown, not_shown, leaf_shown}
use Rattle.printer.proofs.entries.+hold_show.Goals as goal

pub hold-unwrap-kind-requires : goal.hold-unwrap-kind-requires
hold-unwrap-kind-requires t c = kind_found _ (c.requires.order _ c.requires.within) refl c.listed_kind.ensures

pub hold-returns-then-not-loose : goal.hold-returns-then-not-loose
hold-returns-then-not-loose t c =
    let enough : c.args.least ≤ c.rank.result = c.if-not-loose.true in
    rw (held_bare c.requires c.args.least (rw (c.rank.ensures, ← found_is c.listed_kind.ensures c.unwrap-kind.ensures) at enough)) c.show.ensures

pub hold-returns-in_err-put : goal.hold-returns-in_err-put
hold-returns-in_err-put t c =
    rw (held_between c.requires c.args.least (rw (c.rank.ensures, ← found_is c.listed_kind.ensures c.unwrap-kind.ensures) at c.if-not-loose.false))
    (too_long (rw (c.brackets-opening.ensures, ← found_is c.listed_kind.ensures c.unwrap-kind.ensures) at c.put.ensures) _ c.in_err-put.was c.from_residual.ensures.1)

pub hold-returns-in_err-show : goal.hold-returns-in_err-show
hold-returns-in_err-show t c =
    rw (held_between c.requires c.args.least (rw (c.rank.ensures, ← found_is c.listed_kind.ensures c.unwrap-kind.ensures) at c.if-not-loose.false))
    (and_then (rw (c.brackets-opening.ensures, ← found_is c.listed_kind.ensures c.unwrap-kind.ensures) at c.put.ensures) _ c.in_ok-put.was
    (too_long c.show-2.ensures _ c.in_err-show.was c.from_residual-in_err-show.ensures.1))

pub hold-returns : goal.hold-returns
hold-returns t c =
    rw (held_between c.requires c.args.least (rw (c.rank.ensures, ← found_is c.listed_kind.ensures c.unwrap-kind.ensures) at c.if-not-loose.false))
    (and_then (rw (c.brackets-opening.ensures, ← found_is c.listed_kind.ensures c.unwrap-kind.ensures) at c.put.ensures) _ c.in_ok-put.was
    (and_then c.show-2.ensures _ c.in_ok-show.was (rw (c.brackets-opening.ensures, ← found_is c.listed_kind.ensures c.unwrap-kind.ensures) at c.put-2.ensures)))

pub join-overflow_add-least : goal.join-overflow_add-least
join-overflow_add-least t c = omega arith

pub show-unwrap-kind-requires : goal.show-unwrap-kind-requires
show-unwrap-kind-requires t c = kind_found _ (c.requires.order _ c.requires.within) c.entry_at-entry.ensures.kind c.kind_of.ensures

-- an operand is an entry of the table, as it stands before its own
ask : {table : Bytes} {e x y : ℕ} → HasEntry table e → x ≡ y → y < e → HasEntry table x
ask has same l = record { order = has.order; within = omega (arith, has.within) }

pub show-returns-in-Itself : goal.show-returns-in-Itself
unfolding kinds find build path_shown filter_shown
show-returns-in-Itself t c = rw (leaf_shown c.requires 1 refl (kind_is c.entry_at-entry.ensures c.kind_of.ensures c.unwrap-kind.ensures c.in-Itself.is)) c.put.ensures

pub show-returns-in-Child : goal.show-returns-in-Child
unfolding kinds find build path_shown filter_shown
show-returns-in-Child t c = rw (leaf_shown c.requires 2 refl (kind_is c.entry_at-entry.ensures c.kind_of.ensures c.unwrap-kind.ensures c.in-Child.is)) c.put-in-Child.ensures

pub show-returns-in-Parent : goal.show-returns-in-Parent
unfolding kinds find build path_shown filter_shown
show-returns-in-Parent t c = rw (leaf_shown c.requires 3 refl (kind_is c.entry_at-entry.ensures c.kind_of.ensures c.unwrap-kind.ensures c.in-Parent.is)) c.put-in-Parent.ensures

pub show-returns-in-Next : goal.show-returns-in-Next
unfolding kinds find build path_shown filter_shown
show-returns-in-Next t c = rw (leaf_shown c.requires 4 refl (kind_is c.entry_at-entry.ensures c.kind_of.ensures c.unwrap-kind.ensures c.in-Next.is)) c.put-in-Next.ensures

pub show-returns-in-Previous : goal.show-returns-in-Previous
unfolding kinds find build path_shown filter_shown
show-returns-in-Previous t c = rw (leaf_shown c.requires 5 refl (kind_is c.entry_at-entry.ensures c.kind_of.ensures c.unwrap-kind.ensures c.in-Previous.is)) c.put-in-Previous.ensures

pub show-returns-in-Always : goal.show-returns-in-Always
unfolding kinds find build path_shown filter_shown
show-returns-in-Always t c = rw (leaf_shown c.requires 18 refl (kind_is c.entry_at-entry.ensures c.kind_of.ensures c.unwrap-kind.ensures c.in-Always.is)) c.put-in-Always.ensures

pub show-returns-in-Never : goal.show-returns-in-Never
unfolding kinds find build path_shown filter_shown
show-returns-in-Never t c = rw (leaf_shown c.requires 19 refl (kind_is c.entry_at-entry.ensures c.kind_of.ensures c.unwrap-kind.ensures c.in-Never.is)) c.put-in-Never.ensures

pub show-hold-requires : goal.show-hold-requires
show-hold-requires t c =
    let same = c.entry_at-entry.ensures.left in
    let (l, shown) = stay_shown c.requires (kind_is c.entry_at-entry.ensures c.kind_of.ensures c.unwrap-kind.ensures c.in-Stay.is) in
    (omega arith, ask c.requires same l)

pub show-returns-in_err-put-in-Stay : goal.show-returns-in_err-put-in-Stay
show-returns-in_err-put-in-Stay t c =
    rw ((stay_shown c.requires (kind_is c.entry_at-entry.ensures c.kind_of.ensures c.unwrap-kind.ensures c.in-Stay.is)).1, ← c.entry_at-entry.ensures.left)
    (too_long c.put-in-Stay.ensures _ c.in_err-put-in-Stay.was c.from_residual.ensures.1)

pub show-returns-in_err-hold-in-Stay : goal.show-returns-in_err-hold-in-Stay
show-returns-in_err-hold-in-Stay t c =
    rw ((stay_shown c.requires (kind_is c.entry_at-entry.ensures c.kind_of.ensures c.unwrap-kind.ensures c.in-Stay.is)).1, ← c.entry_at-entry.ensures.left)
    (and_then c.put-in-Stay.ensures _ c.in_ok-put-in-Stay.was
    (too_long c.hold.ensures _ c.in_err-hold-in-Stay.was c.from_residual-in_err-hold-in-Stay.ensures.1))

pub show-returns-in_ok-hold-in-Stay : goal.show-returns-in_ok-hold-in-Stay
show-returns-in_ok-hold-in-Stay t c =
    rw ((stay_shown c.requires (kind_is c.entry_at-entry.ensures c.kind_of.ensures c.unwrap-kind.ensures c.in-Stay.is)).1, ← c.entry_at-entry.ensures.left)
    (and_then c.put-in-Stay.ensures _ c.in_ok-put-in-Stay.was (and_then c.hold.ensures _ c.in_ok-hold-in-Stay.was c.put-in-Stay-2.ensures))

pub show-join-requires : goal.show-join-requires
show-join-requires t c =
    let fields = c.entry_at-entry.ensures in
    let left = fields.left in
    let right = fields.right in
    let (l, m, shown) = then_shown c.requires (kind_is c.entry_at-entry.ensures c.kind_of.ensures c.unwrap-kind.ensures c.in-Then.is) in
    (omega arith, (ask c.requires left l, (ask c.requires right m, omega arith)))

pub show-returns-in-Then : goal.show-returns-in-Then
show-returns-in-Then t c =
    let fields = c.entry_at-entry.ensures in
    rw ((then_shown c.requires (kind_is c.entry_at-entry.ensures c.kind_of.ensures c.unwrap-kind.ensures c.in-Then.is)).2, ← fields.left, ← fields.right) c.join.ensures

pub show-join-requires-in-Either : goal.show-join-requires-in-Either
show-join-requires-in-Either t c =
    let fields = c.entry_at-entry.ensures in
    let left = fields.left in
    let right = fields.right in
    let (l, m, shown) = either_shown c.requires (kind_is c.entry_at-entry.ensures c.kind_of.ensures c.unwrap-kind.ensures c.in-Either.is) in
    (omega arith, (ask c.requires left l, (ask c.requires right m, omega arith)))

pub show-returns-in-Either : goal.show-returns-in-Either
show-returns-in-Either t c =
    let fields = c.entry_at-entry.ensures in
    rw ((either_shown c.requires (kind_is c.entry_at-entry.ensures c.kind_of.ensures c.unwrap-kind.ensures c.in-Either.is)).2, ← fields.left, ← fields.right) c.join-in-Either.ensures

pub show-hold-requires-in-Star : goal.show-hold-requires-in-Star
show-hold-requires-in-Star t c =
    let same = c.entry_at-entry.ensures.left in
    let (l, shown) = star_shown c.requires (kind_is c.entry_at-entry.ensures c.kind_of.ensures c.unwrap-kind.ensures c.in-Star.is) in
    (omega arith, ask c.requires same l)

pub show-returns-in_err-hold-in-Star : goal.show-returns-in_err-hold-in-Star
show-returns-in_err-hold-in-Star t c =
    rw ((star_shown c.requires (kind_is c.entry_at-entry.ensures c.kind_of.ensures c.unwrap-kind.ensures c.in-Star.is)).1, ← c.entry_at-entry.ensures.left)
    (too_long c.hold-in-Star.ensures _ c.in_err-hold-in-Star.was c.from_residual-in_err-hold-in-Star.ensures.1)

pub show-returns-in_ok-hold-in-Star : goal.show-returns-in_ok-hold-in-Star
show-returns-in_ok-hold-in-Star t c =
    rw ((star_shown c.requires (kind_is c.entry_at-entry.ensures c.kind_of.ensures c.unwrap-kind.ensures c.in-Star.is)).1, ← c.entry_at-entry.ensures.left)
    (and_then c.hold-in-Star.ensures _ c.in_ok-hold-in-Star.was c.put-in-Star.ensures)

pub show-put_label-requires : goal.show-put_label-requires
show-put_label-requires t c = rw c.entry_at-entry.ensures.label (label_shown_lem c.requires (kind_is c.entry_at-entry.ensures c.kind_of.ensures c.unwrap-kind.ensures c.in-Labelled.is)).0

pub show-returns-in_err-put-in-Labelled : goal.show-returns-in_err-put-in-Labelled
show-returns-in_err-put-in-Labelled t c =
    rw (label_shown_lem c.requires (kind_is c.entry_at-entry.ensures c.kind_of.ensures c.unwrap-kind.ensures c.in-Labelled.is)).1
    (too_long c.put-in-Labelled.ensures _ c.in_err-put-in-Labelled.was c.from_residual-in_err-put-in-Labelled.ensures.1)

pub show-returns-in_ok-put-in-Labelled : goal.show-returns-in_ok-put-in-Labelled
show-returns-in_ok-put-in-Labelled t c =
    rw ((label_shown_lem c.requires (kind_is c.entry_at-entry.ensures c.kind_of.ensures c.unwrap-kind.ensures c.in-Labelled.is)).1, ← c.entry_at-entry.ensures.label)
    (and_then c.put-in-Labelled.ensures _ c.in_ok-put-in-Labelled.was c.put_label.ensures)

pub show-hold-requires-in-Leads : goal.show-hold-requires-in-Leads
show-hold-requires-in-Leads t c =
    let same = c.entry_at-entry.ensures.left in
    let (l, shown) = leads_shown c.requires (kind_is c.entry_at-entry.ensures c.kind_of.ensures c.unwrap-kind.ensures c.in-Leads.is) in
    (omega arith, ask c.requires same l)

pub show-returns-in-Leads : goal.show-returns-in-Leads
show-returns-in-Leads t c =
    rw ((leads_shown c.requires (kind_is c.entry_at-entry.ensures c.kind_of.ensures c.unwrap-kind.ensures c.in-Leads.is)).1, ← c.entry_at-entry.ensures.left)
    (c.hold-in-Leads.ensures)

pub show-hold-requires-in-Not : goal.show-hold-requires-in-Not
show-hold-requires-in-Not t c =
    let same = c.entry_at-entry.ensures.left in
    let (l, shown) = not_shown c.requires (kind_is c.entry_at-entry.ensures c.kind_of.ensures c.unwrap-kind.ensures c.in-Not.is) in
    (omega arith, ask c.requires same l)

pub show-returns-in_err-put-in-Not : goal.show-returns-in_err-put-in-Not
show-returns-in_err-put-in-Not t c =
    rw ((not_shown c.requires (kind_is c.entry_at-entry.ensures c.kind_of.ensures c.unwrap-kind.ensures c.in-Not.is)).1, ← c.entry_at-entry.ensures.left)
    (too_long c.put-in-Not.ensures _ c.in_err-put-in-Not.was c.from_residual-in_err-put-in-Not.ensures.1)

pub show-returns-in_ok-put-in-Not : goal.show-returns-in_ok-put-in-Not
show-returns-in_ok-put-in-Not t c =
    rw ((not_shown c.requires (kind_is c.entry_at-entry.ensures c.kind_of.ensures c.unwrap-kind.ensures c.in-Not.is)).1, ← c.entry_at-entry.ensures.left)
    (and_then c.put-in-Not.ensures _ c.in_ok-put-in-Not.was c.hold-in-Not.ensures)

pub show-join-requires-in-And : goal.show-join-requires-in-And
show-join-requires-in-And t c =
    let fields = c.entry_at-entry.ensures in
    let left = fields.left in
    let right = fields.right in
    let (l, m, shown) = and_shown c.requires (kind_is c.entry_at-entry.ensures c.kind_of.ensures c.unwrap-kind.ensures c.in-And.is) in
    (omega arith, (ask c.requires left l, (ask c.requires right m, omega arith)))

pub show-returns-in-And : goal.show-returns-in-And
show-returns-in-And t c =
    let fields = c.entry_at-entry.ensures in
    rw ((and_shown c.requires (kind_is c.entry_at-entry.ensures c.kind_of.ensures c.unwrap-kind.ensures c.in-And.is)).2, ← fields.left, ← fields.right) c.join-in-And.ensures

pub show-join-requires-in-Or : goal.show-join-requires-in-Or
show-join-requires-in-Or t c =
    let fields = c.entry_at-entry.ensures in
    let left = fields.left in
    let right = fields.right in
    let (l, m, shown) = or_shown c.requires (kind_is c.entry_at-entry.ensures c.kind_of.ensures c.unwrap-kind.ensures c.in-Or.is) in
    (omega arith, (ask c.requires left l, (ask c.requires right m, omega arith)))

pub show-returns-in-Or : goal.show-returns-in-Or
show-returns-in-Or t c =
    let fields = c.entry_at-entry.ensures in
    rw ((or_shown c.requires (kind_is c.entry_at-entry.ensures c.kind_of.ensures c.unwrap-kind.ensures c.in-Or.is)).2, ← fields.left, ← fields.right) c.join-in-Or.ensures
