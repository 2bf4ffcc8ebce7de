-- A search for the first entity that breaks rule 11: no entity before the one come to does. The directory is that of the run, and the
-- configuration's bytes are below 256, so that a wrong source by the directory is one of the run.
use borrow.Author.Rules.{rules}
use Rattle.entities.specs.Run.{blank_node}
use Rattle.sources.proofs.check_sources.Invariants.{start, over, here, on}
use Rattle.sources.proofs.check_sources.Goals as goal

ruleset laws = (start, over, here, on, rules)

pub returns-then-any_wrong : goal.returns-then-any_wrong
unfolding blank_node
returns-then-any_wrong c = search laws

pub loop-user-preserved : goal.loop-user-preserved
unfolding blank_node
loop-user-preserved c = search laws

pub returns : goal.returns
returns c = search laws
