-- The search has come to an index and found none before.
use borrow.Author.Rules.{rules}
use Rattle.entities.specs.Run.{blank_node}
use Rattle.extent.proofs.entity_place.Invariants.{start, over, here, on}
use Rattle.extent.proofs.entity_place.Goals as goal

ruleset laws = (start, over, here, on, rules)

pub returns-then-node-id : goal.returns-then-node-id
unfolding blank_node
returns-then-node-id c = search laws

pub loop-node-preserved : goal.loop-node-preserved
unfolding blank_node
loop-node-preserved c = search laws

pub returns : goal.returns
returns c = search laws
