-- The entities are noted one by one: what stands at an ID is what a lookup among those before the one come to finds.
use borrow.Author.Rules.{rules}
use Rattle.entities.specs.Run.{blank_node}
use Rattle.sources.proofs.directory.Invariants.{start, over, noted}
use Rattle.sources.proofs.directory.Goals as goal

ruleset laws = (start, over, noted, rules)

pub loop-bearer-init : goal.loop-bearer-init
loop-bearer-init c = search laws

pub loop-bearer-preserved : goal.loop-bearer-preserved
unfolding blank_node
loop-bearer-preserved c = search laws

pub returns : goal.returns
returns c = search laws
