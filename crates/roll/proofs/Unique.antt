-- A roll has at most one fault, so two replies that fit call 1 are equal; and the run of a record lies at one place, so two parts that
-- fit call 7 are the same part. Assumes nothing.
use Prim.Native.Nat.{ℕ, ◌*◌}
use native.Mathlib.Omega.{arith}
use mathlib.Core.Path.{◌≡◌, refl, ap}
use denote.Ref.{Bor}
use Rattle.reply.specs.Reply.{Said}
use Rattle.reply.specs.Bytes.{Bytes}
use Rattle.reply.proofs.Unique.{OneFault, Wrong, lowest_one, checked_one}
use Rattle.tree.proofs.Runs.{run_ends_unique}
use Rattle.roll.specs.Roll.{nodes, NodeRight, NodeFault, label, second, parent, Roll, RollFault, bad_length, bad_node}
use Rattle.roll.specs.Promise.{RollChecked, RunPlace, bad_roll, no_record, run, RunGiven}
use Rattle.roll.proofs.Deciding.{roll_in_order}

module _ (b : Bytes) where
  node_wrong : (n i : ℕ) → NodeFault b n i → ¬ NodeRight b i
  node_wrong n i (label l) r = l r.label
  node_wrong n i (second l s) r = s r.second
  node_wrong n i (parent l s p) r = p r.parent

  node_one : (n m i : ℕ) → NodeFault b n i → NodeFault b m i → n ≡ m
  node_one n m i (label l) (label l') = refl
  node_one n m i (label l) (second k s) = absurd (l k)
  node_one n m i (label l) (parent k s p) = absurd (l k)
  node_one n m i (second k s) (label l) = absurd (l k)
  node_one n m i (second k s) (second k' s') = refl
  node_one n m i (second k s) (parent k' z p) = absurd (s z)
  node_one n m i (parent k z p) (label l) = absurd (l k)
  node_one n m i (parent k z p) (second k' s) = absurd (s z)
  node_one n m i (parent k z p) (parent k' z' p') = refl

  pub roll_wrong : Wrong (Roll b) (RollFault b)
  roll_wrong n p (bad_length l) r = l r.size
  roll_wrong n p (bad_node l f) r = node_wrong n p f.faulty (r.node p f.within)

  pub roll_one : OneFault (RollFault b)
  roll_one n m p q (bad_length l) (bad_length l') = (refl, refl)
  roll_one n m p q (bad_length l) (bad_node r f) = absurd (l r)
  roll_one n m p q (bad_node r f) (bad_length l) = absurd (l r)
  roll_one n m p q (bad_node r f) (bad_node r' f') = lowest_one node_wrong node_one n m p q f f'

  -- call 1 says one thing
  pub roll_checked_one : {s u : Said} → RollChecked b s → RollChecked b u → s ≡ u
  unfolding RollChecked
  roll_checked_one x y = checked_one roll_wrong roll_one x y

  -- the run of a record lies at one place
  pub run_place_one : {k s e s' e' : ℕ} → RunPlace b k s e → RunPlace b k s' e' → (s ≡ s') × (e ≡ e')
  run_place_one (bad_roll n) (bad_roll n') = (refl, refl)
  run_place_one (bad_roll n) (no_record l) = (refl, refl)
  run_place_one (bad_roll n) (run r l x) = absurd (n r)
  run_place_one (no_record l) (bad_roll n) = (refl, refl)
  run_place_one (no_record l) (no_record l') = (refl, refl)
  run_place_one (no_record l) (run r l' x) = absurd (omega arith)
  run_place_one (run r l x) (bad_roll n) = absurd (n r)
  run_place_one (run r l x) (no_record l') = absurd (omega arith)
  run_place_one (run r l x) (run r' l' x') = (refl, ap (λ (e : ℕ). 4 * e) (run_ends_unique (nodes b) (roll_in_order r) x x' l))

-- call 7 gives one part of the table: two that fit have the same pointer and the same bytes
pub run_given_one : {table x y : Bor Bytes} {k : ℕ} → RunGiven table k x → RunGiven table k y → (x.ref_ptr ≡ y.ref_ptr) × (x.now ≡ y.now)
run_given_one {table} g h = let same = run_place_one table.now g.place h.place in (cc, cc)
