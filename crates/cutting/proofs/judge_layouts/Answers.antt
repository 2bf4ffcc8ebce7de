use borrow.Author.Rules.{rules}
use Rattle.ground.specs.Refuse.{refuse}
use Rattle.ground.specs.Told.{told}
use Rattle.cutting.specs.Survey.{unlaid_refused}
use Rattle.cutting.proofs.judge_layouts.Goals as goal

pub returns-in-None : goal.returns-in-None
unfolding unlaid_refused told
returns-in-None c = search rules

pub returns-in_err-refuse_at : goal.returns-in_err-refuse_at
unfolding unlaid_refused refuse told
returns-in_err-refuse_at c = search rules

pub returns : goal.returns
unfolding unlaid_refused refuse told
returns c = search rules
