-- The ways of a request.
use borrow.Author.Rules.{rules}
use Rattle.duet.proofs.AskingLaws.{nobody_thirty, nobody_refused, side_asked}
use Rattle.duet.proofs.request.Goals as goal

ruleset laws = (nobody_thirty, nobody_refused, side_asked, rules)

pub returns-in-Nobody : goal.returns-in-Nobody
returns-in-Nobody c = search laws

pub returns-in-Nobody-2 : goal.returns-in-Nobody-2
returns-in-Nobody-2 c = search laws

pub returns-in-At : goal.returns-in-At
returns-in-At c = search laws
