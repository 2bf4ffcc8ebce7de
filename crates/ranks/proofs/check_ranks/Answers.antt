-- The entities are looked at one by one, up to the first whose ID no entity of the order bears.
use borrow.Author.Rules.{rules}
use Rattle.entities.specs.Run.{blank_node}
use Rattle.ranks.proofs.check_ranks.Invariants.{start, over, here, on}
use Rattle.ranks.proofs.check_ranks.Goals as goal

ruleset laws = (start, over, here, on, rules)

pub loop-node-init : goal.loop-node-init
loop-node-init c = search laws

pub returns-then-not-marks-index_of : goal.returns-then-not-marks-index_of
unfolding blank_node
returns-then-not-marks-index_of c = search laws

pub loop-node-preserved : goal.loop-node-preserved
unfolding blank_node
loop-node-preserved c = search laws

pub returns : goal.returns
returns c = search laws
