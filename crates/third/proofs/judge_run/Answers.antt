use borrow.Author.Rules.{rules}
use Rattle.ground.specs.Refuse.{refuse}
use Rattle.ground.specs.Told.{told}
use Rattle.third.proofs.judge_run.Goals as goal

pub returns-in_err-refuse_unless : goal.returns-in_err-refuse_unless
unfolding refuse told
returns-in_err-refuse_unless c = search rules

pub returns-in_err-refuse_at : goal.returns-in_err-refuse_at
unfolding refuse told
returns-in_err-refuse_at c = search rules

pub returns : goal.returns
unfolding refuse told
returns c = search rules
