-- A search for the entity that bears the ID: none before the one come to does.
use borrow.Author.Rules.{rules}
use Rattle.entities.specs.Run.{blank_node}
use Rattle.routing.proofs.is_output.Invariants.{start, over, here, on}
use Rattle.routing.proofs.is_output.Goals as goal

ruleset laws = (start, over, here, on, rules)

pub returns-then-node-id : goal.returns-then-node-id
unfolding blank_node
returns-then-node-id c = search laws

pub loop-node-preserved : goal.loop-node-preserved
unfolding blank_node
loop-node-preserved c = search laws

pub returns : goal.returns
returns c = search laws
