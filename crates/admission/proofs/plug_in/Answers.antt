-- The ways of a plug-in.
use borrow.Author.Rules.{rules}
use Rattle.admission.proofs.PluggingLemmas.{plug_barred, plug_turned, plug_let_in}
use Rattle.admission.proofs.plug_in.Goals as goal

ruleset laws = (plug_barred, plug_turned, plug_let_in, rules)

pub returns-in-Err : goal.returns-in-Err
returns-in-Err c = search laws

pub returns-in-Ok-admit : goal.returns-in-Ok-admit
returns-in-Ok-admit c = search laws

pub returns-in-Err-admit : goal.returns-in-Err-admit
returns-in-Err-admit c = search laws
