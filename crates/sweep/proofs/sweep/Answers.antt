-- Along the run: each entity finds what its sources gave out before it, and the arrays hold what was given out.
use borrow.Author.Rules.{rules}
use Rattle.entities.specs.Run.{blank_node}
use Rattle.sweep.specs.SweepLaws.{sweeping_start, sweeping_long}
use Rattle.sweep.proofs.sweep.Invariants.{over, more}
use Rattle.sweep.proofs.sweep.Goals as goal

ruleset laws = (sweeping_start, sweeping_long, over, more, rules)

pub loop-node-init : goal.loop-node-init
loop-node-init c = search laws

pub loop-node-preserved : goal.loop-node-preserved
unfolding blank_node
loop-node-preserved c = search laws

pub returns : goal.returns
returns c = search laws
