-- Rules have at most one fault, so two replies that fit the check of a roll's content are equal. Assumes nothing.
use Prim.Native.Nat.{ℕ}
use mathlib.Core.Path.{◌≡◌, refl}
use Rattle.reply.specs.Reply.{Said}
use Rattle.reply.specs.Bytes.{Bytes}
use Rattle.reply.proofs.Unique.{OneFault, Wrong, lowest_one, in_turn_one, in_turn_wrong, checked_one}
use Rattle.roll.specs.Roll.{nodes}
use Rattle.roll.proofs.Unique.{roll_wrong, roll_one}
use Rattle.rules.specs.Rules.{Malformed, malformed, Rules, RulesFault, bad_length, bad_entry, bad_record, Allowed, Forbidden, forbidden}
use Rattle.rules.specs.Promise.{Follows, ContentFault, ContentChecked}

-- what is malformed is not right, and has one number
malformed_wrong : {Right : ℕ → Type 0} → (n i : ℕ) → Malformed Right n i → ¬ Right i
malformed_wrong n i (malformed f) = f

malformed_one : {Right : ℕ → Type 0} → (n m i : ℕ) → Malformed Right n i → Malformed Right m i → n ≡ m
malformed_one n m i (malformed f) (malformed g) = refl

module _ (rules list : Bytes) where
  pub rules_wrong : Wrong (Rules rules list) (RulesFault rules list)
  rules_wrong n p (bad_length l) r = l r.size
  rules_wrong n p (bad_entry l f) r = malformed_wrong n p f.faulty (r.entry p f.within)
  rules_wrong n p (bad_record l es f) r = malformed_wrong n p f.faulty (r.each p f.within)

  pub rules_one : OneFault (RulesFault rules list)
  rules_one n m p q (bad_length l) (bad_length k) = (refl, refl)
  rules_one n m p q (bad_length l) (bad_entry k f) = absurd (l k)
  rules_one n m p q (bad_length l) (bad_record k es f) = absurd (l k)
  rules_one n m p q (bad_entry k f) (bad_length l) = absurd (l k)
  rules_one n m p q (bad_entry k f) (bad_entry l g) = lowest_one malformed_wrong malformed_one n m p q f g
  rules_one n m p q (bad_entry k f) (bad_record l es g) = absurd (malformed_wrong n p f.faulty (es p f.within))
  rules_one n m p q (bad_record k es f) (bad_length l) = absurd (l k)
  rules_one n m p q (bad_record k es f) (bad_entry l g) = absurd (malformed_wrong m q g.faulty (es q g.within))
  rules_one n m p q (bad_record k es f) (bad_record l fs g) = lowest_one malformed_wrong malformed_one n m p q f g

  module _ (roll : Bytes) where
    forbidden_wrong : (n i : ℕ) → Forbidden rules list (nodes roll) n i → ¬ Allowed rules list (nodes roll) i
    forbidden_wrong n i (forbidden f) = f

    forbidden_one : (n m i : ℕ) → Forbidden rules list (nodes roll) n i → Forbidden rules list (nodes roll) m i → n ≡ m
    forbidden_one n m i (forbidden f) (forbidden g) = refl

    content_wrong : Wrong (Follows roll rules list) (ContentFault roll rules list)
    content_wrong n p f follows = forbidden_wrong n p f.faulty (follows p f.within)

    content_one : OneFault (ContentFault roll rules list)
    content_one n m p q f g = lowest_one forbidden_wrong forbidden_one n m p q f g

    -- the check of a roll's content says one thing
    pub content_checked_one : {s u : Said} → ContentChecked roll rules list s → ContentChecked roll rules list u → s ≡ u
    unfolding ContentChecked
    content_checked_one =
        checked_one
        (in_turn_wrong (roll_wrong roll) (in_turn_wrong rules_wrong content_wrong))
        (in_turn_one (roll_wrong roll) (roll_one roll) (in_turn_one rules_wrong rules_one content_one))
