-- The records are answered one by one. Assumes nothing.
use Prim.Native.Nat.{ℕ, ◌+◌, ◌<◌}
use native.Mathlib.Decide.{ℕ_discrete}
use native.Mathlib.Omega.{arith}
use mathlib.Core.Path.{◌≡◌}
use mathlib.Core.List.{List, []}
use lib.ListN.{length, get_or, set}
use lib.Seq.{get_or-set_same, get_or-set_other}
use Rattle.reply.specs.Bytes.{Bytes}
use Rattle.roll.specs.Roll.{nodes}
use Rattle.query.specs.Meaning.{holds}
use Rattle.query.specs.Table.{entries, filter_at}
use Rattle.view.specs.Annotation.{records, record_at}
use Rattle.sets.specs.Sets.{Holds}
use Rattle.visible.specs.Index.{FirstNamed}
use Rattle.visible.specs.Answers.{HoldsAt, AnswersTo}

module _ {roll annotation filters : Bytes} where
  -- a record that is not the first to name its filter is not answered
  pub answers_same : {r s : ℕ} {answers : List (List ℕ)} → FirstNamed annotation r s → ¬ (s ≡ r) → AnswersTo roll annotation filters r answers
      → AnswersTo roll annotation filters (r + 1) answers
  answers_same {r} {s} named apart so_far =
      let early = named.known in
      record { answer = λ k h first. so_far.answer k (earlier k h first) first }
    where
      earlier : (k : ℕ) → k < r + 1 → FirstNamed annotation k k → k < r
      earlier k h first =
          let not_r : ¬ (k ≡ r) = λ e. first.first s (omega (arith, named.known)) (rw e named.same) in
          omega arith

  -- the answer of record r is put in its place
  pub answers_more : {r : ℕ} {own : List ℕ} {answers : List (List ℕ)} → r < length answers
      → Holds (λ i. (i < length (nodes roll)) × holds (nodes roll) (filter_at (entries filters) (record_at (records annotation) r).filter) i) own
      → AnswersTo roll annotation filters r answers → AnswersTo roll annotation filters (r + 1) (set answers r own)
  answers_more {r} {own} {answers} inside held so_far =
      record { answer = λ s h first. answer s h first (ℕ_discrete s r) }
    where
      answer : (s : ℕ) → s < r + 1 → FirstNamed annotation s s → Dec (s ≡ r)
          → Holds (HoldsAt roll annotation filters s) (get_or (set answers r own) s [])
      answer s h first (yes e) =
          rw (e, get_or-set_same answers r own [] inside)
          (record { exact = λ i. (λ m. let (l, f) = (held.exact i).0 m in record { node = l; filter = f }, λ x. (held.exact i).1 (x.node, x.filter)) })
      answer s h first (no apart) = rw (get_or-set_other answers r s own [] apart) (so_far.answer s (omega arith) first)
