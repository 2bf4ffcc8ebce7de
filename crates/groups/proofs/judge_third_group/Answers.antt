use borrow.Author.Rules.{rules}
use Rattle.ground.specs.Refuse.{refuse}
use Rattle.ground.specs.Told.{told}
use Rattle.groups.specs.Third.{third_breach5, third_breach6, third_group_judged}
use Rattle.groups.proofs.judge_third_group.Goals as goal

pub returns-in_err-refuse_unless : goal.returns-in_err-refuse_unless
unfolding third_group_judged third_breach5 refuse told
returns-in_err-refuse_unless c = search rules

pub returns : goal.returns
unfolding third_group_judged third_breach5 third_breach6 refuse told
returns c = search rules
