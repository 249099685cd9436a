-- `run_of`: a refused roll and a number that is not in it give the empty part at the front of the table, any
-- other the records from k up to where its run ends.
use Prim.Native.Nat.{◌*◌, ◌≤◌, ◌<◌}
use native.Mathlib.Omega.{arith}
use mathlib.Core.Path.{◌≡◌, refl}
use lib.ListN.{length}
use Rattle.roll.specs.Roll.{nodes, Roll}
use Rattle.roll.specs.Promise.{bad_roll, no_record}
use Rattle.roll.proofs.Records.{record_inside}
use Rattle.roll.proofs.Checking.{roll_right, not_roll}
use Rattle.roll.proofs.Parts.{run_inside, run_place, empty_given, part_given}
use Rattle.roll.proofs.run.run_of.Goals as goal
use Rattle.roll.proofs.run.run_of.Goals.{After-end_of, Else-n-k, In-Ok}

-- a table that is not refused is a roll of as many nodes as it is said to have
counted : (c : In-Ok)
    → let b = c.args.roll.now in
    Roll b × (c.in-Ok.n ≡ length (nodes b))
counted c =
    roll_right c.args.roll.now c.in-Ok.is c.check_roll.ensures

-- where the test lets on, there is a record k
within : (c : Else-n-k) → let a = c.args in a.k < length (nodes a.roll.now)
within c =
    let counted : (let b = c.args.roll.now in
    Roll b × (c.in-Ok.n ≡ length (nodes b))) = roll_right c.args.roll.now c.in-Ok.is c.check_roll.ensures in
    omega (arith, counted.1)

-- the bytes of the run lie in the table
inside : (c : After-end_of)
    → let a = c.args in
    (a.k < c.end_of.result) × (4 * c.end_of.result ≤ length a.roll.now)
inside c =
    let counted : (let b = c.args.roll.now in
    Roll b × (c.in-Ok.n ≡ length (nodes b))) = roll_right c.args.roll.now c.in-Ok.is c.check_roll.ensures in
    let within : (let a = c.args in a.k < length (nodes a.roll.now)) = let counted : (let b = c.args.roll.now in
    Roll b × (c.in-Ok.n ≡ length (nodes b))) = roll_right c.args.roll.now c.in-Ok.is c.check_roll.ensures in
    omega (arith, counted.1) in
    run_inside counted.0 within c.end_of.ensures

pub returns-in_default : goal.returns-in_default
returns-in_default c =
    let refused = not_roll c.args.roll.now c.in_default.is c.check_roll.ensures in
    empty_given (bad_roll refused) refl refl

pub returns-then-n-k : goal.returns-then-n-k
returns-then-n-k c = empty_given (no_record (omega (arith, (counted (goal.at.returns-then-n-k c).In-Ok).1))) refl refl

pub overflow_mul-start : goal.overflow_mul-start
overflow_mul-start c =
    let a = c.args in
    omega (arith, record_inside a.roll.now a.k (within c))

pub end_of-requires : goal.end_of-requires
end_of-requires c = record { roll = (counted (goal.at.end_of-requires c).In-Ok).0; k_in_bounds = within c }

pub overflow_sub-end : goal.overflow_sub-end
overflow_sub-end c = omega (arith, inside c)

pub overflow_mul-end : goal.overflow_mul-end
overflow_mul-end c = omega (arith, inside c)

pub overflow_add-end : goal.overflow_add-end
overflow_add-end c = omega (arith, inside c)

pub slice_bounds-result-end-2 : goal.slice_bounds-result-end-2
slice_bounds-result-end-2 c = omega (arith, inside c)

pub returns : goal.returns
returns c =
    part_given (omega arith) refl refl (run_place (counted (goal.at.returns c).In-Ok).0 (within (goal.at.returns c).Else-n-k) c.end_of.ensures)
