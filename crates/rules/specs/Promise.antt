-- What the check of a roll's content promises.
use Rattle.std.specs.Prelude.{ℕ, ◌<◌, length}
use Rattle.reply.specs.Reply.{Said}
use Rattle.reply.specs.Bytes.{Bytes}
use Rattle.reply.specs.Outcome.{Lowest, InTurn, Checked}
use Rattle.roll.specs.Roll.{nodes, Roll, RollFault}
use Rattle.rules.specs.Rules.{Rules, RulesFault, Allowed, Forbidden}

module _ (roll rules list : Bytes) where
  -- "A roll is accepted exactly when every node's child labels, in order, are in its rule's language."
  abbrev pub Follows : Type 0
  Follows = (i : ℕ) → i < length (nodes roll) → Allowed rules list (nodes roll) i

  -- 21, "children not allowed, at the lowest such record"
  abbrev pub ContentFault : ℕ → ℕ → Type 0
  ContentFault = Lowest (Allowed rules list (nodes roll)) (Forbidden rules list (nodes roll)) (length (nodes roll))

  -- "The check counts the nodes." "Refusals, after the roll's own": 20, then 21.
  unfoldable pub ContentChecked : Said → Type 0
  ContentChecked said =
      Checked
      (Roll roll × (Rules rules list × Follows))
      (InTurn (Roll roll) (RollFault roll) (InTurn (Rules rules list) (RulesFault rules list) ContentFault))
      (length (nodes roll)) said
