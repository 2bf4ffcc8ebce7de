-- The ways of a request for a side.
use borrow.Author.Rules.{rules}
use Rattle.duet.proofs.AskingLaws.{ask_barred, ask_handed}
use Rattle.duet.proofs.hand_down.Goals as goal

ruleset laws = (ask_barred, ask_handed, rules)

pub returns-in-Err : goal.returns-in-Err
returns-in-Err c = search laws

pub returns-in-Ok : goal.returns-in-Ok
returns-in-Ok c = search laws
