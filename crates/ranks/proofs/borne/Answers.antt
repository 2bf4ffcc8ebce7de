-- The entities are looked at one by one, and the ID of each is marked: those looked at, and those that are left, are the run's.
use borrow.Author.Rules.{rules}
use Rattle.entities.specs.Run.{blank_node}
use Rattle.ranks.proofs.borne.Invariants.{start, over, on}
use Rattle.ranks.proofs.borne.Goals as goal

ruleset laws = (start, over, on, rules)

pub loop-node-init : goal.loop-node-init
loop-node-init c = search laws

pub loop-node-preserved : goal.loop-node-preserved
unfolding blank_node
loop-node-preserved c = search laws

pub returns : goal.returns
returns c = search laws
