-- An array filled index by index.
use borrow.Author.Rules.{rules}
use Rattle.entities.specs.Run.{blank_node}
use Rattle.sweep.proofs.by_index.Invariants.{start, long, more, over}
use Rattle.sweep.proofs.by_index.Goals as goal

ruleset laws = (start, long, more, over, rules)

pub loop-i-init : goal.loop-i-init
loop-i-init c = search laws

pub loop-i-preserved : goal.loop-i-preserved
unfolding blank_node
loop-i-preserved c = search laws

pub returns : goal.returns
returns c = search laws
