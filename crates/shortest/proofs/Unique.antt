-- A table has at most one fault when it is printed, and none if it has a text that is short enough: two replies that fit the promise of
-- printing are equal. Assumes nothing.
use Prim.Native.Nat.{ℕ}
use native.Mathlib.Omega.{arith}
use mathlib.Core.Path.{◌≡◌, refl, sym, ap, ◌∙◌}
use lib.ListN.{length}
use Rattle.reply.specs.Reply.{Said}
use Rattle.reply.specs.Bytes.{Bytes}
use Rattle.reply.specs.Outcome.{first, behind}
use Rattle.reply.proofs.Unique.{OneFault, Wrong, in_turn_one, outcome_one, written_one}
use Rattle.query.specs.Syntax.{Path}
use Rattle.query.specs.Fault.{curators}
use Rattle.query.proofs.Unique.{query_wrong, query_one}
use Rattle.text.specs.Print.{TooLong, too_long, Printable, PrintFault, TextGiven, TablePrinted}
use Rattle.shortest.proofs.Texts.{fewest_shown}
use Rattle.shortest.proofs.Length.{fewest_shortest}

-- "18 exactly when that text would be longer": one number and place
too_long_one : {p : Path} → OneFault (TooLong p)
too_long_one n m i j (too_long x l) (too_long y k) = (refl, refl)

module _ (table : Bytes) where
  -- a table with a fault is not printed
  pub print_wrong : Wrong (Printable table) (PrintFault table)
  unfolding PrintFault
  print_wrong n i (first f) given = query_wrong curators table n i f given.query
  print_wrong n i (behind right (too_long x long)) given =
      omega (arith, fewest_shortest x given.text given.printed.of, given.most)

  -- it has one fault
  print_one : OneFault (PrintFault table)
  unfolding PrintFault
  print_one = in_turn_one (query_wrong curators table) (query_one curators table) too_long_one

  -- printing says one thing, and leaves one room
  pub printed_one : (before : Bytes) {x y : Bytes} {s u : Said} → TablePrinted table before s x → TablePrinted table before u y
      → (s ≡ u) × (x ≡ y)
  unfolding TablePrinted
  printed_one before a b = outcome_one print_wrong print_one same a b
    where
      same : Printable table → (c d : ℕ) (x y : Bytes) → TextGiven table before c x → TextGiven table before d y → (c ≡ d) × (x ≡ y)
      same right c d x y g h =
          let texts : g.text ≡ h.text = fewest_shown g.printed ∙ sym (fewest_shown h.printed) in
          (g.count ∙ ap length texts ∙ sym h.count, written_one g.written h.written texts)
