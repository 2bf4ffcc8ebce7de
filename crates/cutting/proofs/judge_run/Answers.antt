use borrow.Author.Rules.{rules}
use Rattle.ground.specs.Refuse.{refuse}
use Rattle.ground.specs.Told.{told}
use Rattle.cutting.specs.Survey.{run_refused}
use Rattle.cutting.proofs.judge_run.Goals as goal

pub returns-in_err-refuse_unless : goal.returns-in_err-refuse_unless
unfolding run_refused refuse told
returns-in_err-refuse_unless c = search rules

pub returns : goal.returns
unfolding run_refused refuse told
returns c = search rules
