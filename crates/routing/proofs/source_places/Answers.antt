-- The entities are noted one by one: at each ID stand the numbers of the last that bears it, of those before the one come to.
use borrow.Author.Rules.{rules}
use Rattle.entities.specs.Run.{blank_node}
use Rattle.routing.proofs.source_places.Invariants.{start, on, over}
use Rattle.routing.proofs.source_places.Goals as goal

ruleset laws = (start, on, over, rules)

pub loop-node-init : goal.loop-node-init
loop-node-init c = search laws

pub loop-node-preserved : goal.loop-node-preserved
unfolding blank_node
loop-node-preserved c = search laws

pub returns : goal.returns
returns c = search laws
