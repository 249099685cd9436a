-- `is_told`: a filter is plain where it is read as one.
use mathlib.Core.Logic.Iff
use mathlib.Core.Logic.{◌↔◌, inr, ⊎_elim}
use lib.Dec.{T}
use Prim.Native.Nat.{ℕ}
use Rattle.reply.specs.Bytes.{Bytes}
use Rattle.query.specs.Table.{entries, filter_at}
use Rattle.evaluator.specs.declared.entry.FilterEntry.{FilterEntry}
use Rattle.evaluator.specs.declared.entry.FilterEntry.TheVariants.{Labelled, Leads, Always, Never, Not, And, Or}
use Rattle.evaluator.specs.AtHand.{Plain, plain}
use Rattle.evaluator.specs.Entry.{ForFilter}
use Rattle.evaluator.proofs.at_hand.is_told.Goals as goal

read_plain : (tab : Bytes) (f : ℕ) (read : FilterEntry) → ForFilter tab f read → T (plain read) ↔ Plain (filter_at (entries tab) f)
read_plain tab f (Labelled l) is = rw is Iff.rfl
read_plain tab f (Leads p) (part, is) = rw is Iff.rfl
read_plain tab f Always is = rw is Iff.rfl
read_plain tab f Never is = rw is Iff.rfl
read_plain tab f (Not g) (part, is) = rw is Iff.rfl
read_plain tab f (And g h) (parts, is) = rw is Iff.rfl
read_plain tab f (Or g h) (parts, is) = rw is Iff.rfl

pub returns : goal.returns
returns c =
    let (out, back) = rw (← c.is_plain.ensures) at (read_plain _ _ _ c.filter_entry.ensures) in
    (λ t. inr (out t), λ told. ⊎_elim (λ e. absurd (c.if-f-known.false e)) back told)
