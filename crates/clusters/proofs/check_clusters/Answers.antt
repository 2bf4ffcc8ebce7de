-- A search for the first entity that breaks its rule: none before the one come to does. The rules look at channels and bitmaps alone.
use borrow.Author.Rules.{rules}
use Rattle.entities.specs.Run.{blank_node}
use Rattle.clusters.proofs.check_clusters.Invariants.{start, over, here, on}
use Rattle.clusters.proofs.check_clusters.Goals as goal

ruleset laws = (start, over, here, on, rules)

pub loop-node-init : goal.loop-node-init
loop-node-init c = search laws

pub returns-then-not-kept : goal.returns-then-not-kept
unfolding blank_node
returns-then-not-kept c = search laws

pub loop-node-preserved : goal.loop-node-preserved
unfolding blank_node
loop-node-preserved c = search laws

pub returns : goal.returns
returns c = search laws
