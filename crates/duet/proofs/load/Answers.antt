-- The ways of a load.
use borrow.Author.Rules.{rules}
use Rattle.duet.proofs.AskingLaws.{load_barred, load_handed}
use Rattle.duet.proofs.load.Goals as goal

ruleset laws = (load_barred, load_handed, rules)

pub returns-in-Err : goal.returns-in-Err
returns-in-Err c = search laws

pub returns-in-Ok : goal.returns-in-Ok
returns-in-Ok c = search laws
