-- The controls of the channels before `channel` are noted, at most ten for each.
use borrow.Author.Rules.{rules}
use Rattle.controls.proofs.Notes.add_unit.Invariants.{start, room_next, on, over, last}
use Rattle.controls.proofs.Notes.add_unit.Goals as goal

ruleset laws = (start, room_next, on, over, last, rules)

pub loop-channel-init : goal.loop-channel-init
loop-channel-init c = search laws

pub loop-channel-preserved : goal.loop-channel-preserved
loop-channel-preserved c = search laws

pub returns : goal.returns
returns c = search laws

pub returns-2 : goal.returns-2
returns-2 c = search laws
