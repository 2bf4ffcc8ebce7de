use borrow.Author.Rules.{rules}
use Rattle.ground.specs.Refuse.{refuse}
use Rattle.ground.specs.Told.{told}
use Rattle.third.specs.Judgement.{links_judged, linked_in, clustered_in}
use Rattle.third.proofs.judge_links.Goals as goal

pub returns-in_err-refuse_at : goal.returns-in_err-refuse_at
unfolding linked_in links_judged refuse told
returns-in_err-refuse_at c = search rules

pub returns-in_err-refuse_at-2 : goal.returns-in_err-refuse_at-2
unfolding linked_in links_judged refuse told
returns-in_err-refuse_at-2 c = search rules

pub returns-in_err-refuse_at-3 : goal.returns-in_err-refuse_at-3
unfolding linked_in links_judged refuse told
returns-in_err-refuse_at-3 c = search rules

pub returns : goal.returns
unfolding linked_in links_judged clustered_in refuse told
returns c = search rules
