-- `check_content`: the checks in turn.
use Rattle.reply.specs.Outcome.{first, behind}
use Rattle.reply.proofs.Checking.{met, right_of, passed_up, checked_as}
use Rattle.roll.specs.Roll.{Roll}
use Rattle.roll.specs.Promise.{RollChecked}
use Rattle.rules.specs.Rules.{Rules}
use Rattle.rules.specs.Promise.{ContentChecked}
use Rattle.content.proofs.check_content.Goals as goal
use Rattle.content.proofs.check_content.Goals.{In_ok-check_roll, In_ok-check_rules}

-- the roll is one, where its check replies with a count
accepted : (c : In_ok-check_roll) → Roll c.args.roll.now
unfolding RollChecked
accepted c = right_of c.in_ok-check_roll.was c.check_roll.ensures

-- and so are the rules
in_order : (c : In_ok-check_rules)
    → let given = c.args in Rules given.rules.now given.list.now
in_order c = right_of c.in_ok-check_rules.was c.check_rules.ensures

pub returns-in_err-check_roll : goal.returns-in_err-check_roll
unfolding ContentChecked RollChecked
returns-in_err-check_roll c = passed_up (λ n p. first) c.in_err-check_roll.was (met c.from_residual.ensures.1) c.check_roll.ensures

pub returns-in_err-check_rules : goal.returns-in_err-check_rules
unfolding ContentChecked
returns-in_err-check_rules c =
    passed_up (λ n p f. behind (accepted (goal.at.returns-in_err-check_rules c).In_ok-check_roll) (first f)) c.in_err-check_rules.was
    (met c.from_residual-in_err-check_rules.ensures.1) c.check_rules.ensures

pub check_nodes-requires : goal.check_nodes-requires
check_nodes-requires c = (accepted (goal.at.check_nodes-requires c).In_ok-check_roll, in_order c)

pub returns : goal.returns
unfolding ContentChecked
returns c =
    let roll = accepted (goal.at.returns c).In_ok-check_roll in
    let rules = in_order (goal.at.returns c).In_ok-check_rules in
    checked_as (λ follows. (roll, (rules, follows))) (λ n p f. behind roll (behind rules f)) c.check_nodes.ensures
