-- An annotation has at most one fault, and a view is the only one, so two outcomes that fit call 4 are equal. Assumes nothing.
use Prim.Native.Nat.{ℕ}
use mathlib.Core.Path.{◌≡◌, refl, sym, ap, ◌∙◌}
use lib.ListN.{length}
use Rattle.reply.specs.Reply.{Said}
use Rattle.reply.specs.Bytes.{Bytes}
use Rattle.reply.proofs.Unique.{OneFault, Wrong, lowest_one, in_turn_one, in_turn_wrong, outcome_one, written_one}
use Rattle.tree.specs.Tree.{Tree}
use Rattle.roll.specs.Roll.{nodes, node_bytes, Roll}
use Rattle.roll.proofs.Deciding.{roll_in_order, roll_root}
use Rattle.roll.proofs.Unique.{roll_wrong, roll_one}
use Rattle.query.proofs.Unique.{filter_wrong, filter_one}
use Rattle.query.specs.Table.{Entries, entries}
use Rattle.view.specs.Annotation.{RecordRight, RecordFault, malformed, not_above, Annotation, AnnotationFault, bad_length, bad_record, rules}
use Rattle.view.specs.Visible.{root}
use Rattle.view.specs.View.{View}
use Rattle.view.specs.Promise.{Seen, Annotated, AnnotatedFault, ViewCut}
use Rattle.view.proofs.Deciding.{dec_visible}
use Rattle.view.proofs.Order.{view_unique}

module _ (es : Entries) (b : Bytes) where
  record_wrong : (n i : ℕ) → RecordFault es b n i → ¬ RecordRight es b i
  record_wrong n i (malformed m) r = m r.form
  record_wrong n i (not_above f a) r = a r.ascends

  record_one : (n m i : ℕ) → RecordFault es b n i → RecordFault es b m i → n ≡ m
  record_one n m i (malformed x) (malformed y) = refl
  record_one n m i (malformed x) (not_above f a) = absurd (x f)
  record_one n m i (not_above f a) (malformed y) = absurd (y f)
  record_one n m i (not_above f a) (not_above g c) = refl

  pub annotation_wrong : Wrong (Annotation es b) (AnnotationFault es b)
  annotation_wrong n p (bad_length l) a = l a.size
  annotation_wrong n p (bad_record l f) a = record_wrong n p f.faulty (a.each p f.within)

  pub annotation_one : OneFault (AnnotationFault es b)
  annotation_one n m p q (bad_length l) (bad_length k) = (refl, refl)
  annotation_one n m p q (bad_length l) (bad_record k f) = absurd (l k)
  annotation_one n m p q (bad_record k f) (bad_length l) = absurd (l k)
  annotation_one n m p q (bad_record k f) (bad_record l g) = lowest_one record_wrong record_one n m p q f g

module _ (annotation filters : Bytes) where
  pub annotated_wrong : Wrong (Annotated annotation filters) (AnnotatedFault annotation filters)
  unfolding AnnotatedFault
  annotated_wrong n p f a = in_turn_wrong (filter_wrong filters) (annotation_wrong (entries filters) annotation) n p f (a.table, a.records)

  pub annotated_one : OneFault (AnnotatedFault annotation filters)
  unfolding AnnotatedFault
  annotated_one = in_turn_one (filter_wrong filters) (filter_one filters) (annotation_one (entries filters) annotation)

  module _ (roll : Bytes) where
    -- an accepted roll has one view
    pub seen_view_one : Roll roll → {v w : Tree} → View (nodes roll) (Seen roll annotation filters) v → View (nodes roll) (Seen roll annotation filters) w → v ≡ w
    unfolding Seen
    seen_view_one r x y =
        let o = roll_in_order r in
        view_unique o (dec_visible (nodes roll) (rules (entries filters) annotation) o (roll_root r)) root x y

    -- call 4 comes out in one way
    pub view_cut_one : (before : Bytes) {s u : Said} {x y : Bytes} → ViewCut roll annotation filters before s x → ViewCut roll annotation filters before u y → (s ≡ u) × (x ≡ y)
    unfolding ViewCut
    view_cut_one before =
        outcome_one (in_turn_wrong (roll_wrong roll) annotated_wrong) (in_turn_one (roll_wrong roll) (roll_one roll) annotated_one)
        (λ right c d x y a b.
        let same = seen_view_one right.0 a.is b.is in
        (a.count ∙ ap length same ∙ sym b.count, written_one a.written b.written (ap node_bytes same)))
