use borrow.Author.Rules.{rules}
use Rattle.ground.specs.Refuse.{refuse}
use Rattle.ground.specs.Told.{told}
use Rattle.topology.specs.Reading.{table_judged, finding_with}
use Rattle.topology.proofs.judge_table.Goals as goal

pub returns-in_err-refuse_at : goal.returns-in_err-refuse_at
unfolding table_judged refuse told
returns-in_err-refuse_at c = search rules

pub returns : goal.returns
unfolding table_judged finding_with refuse told
returns c = search rules
