-- A search for the first entity at the place, by the laws of such a search.
use borrow.Author.Rules.{rules}
use Rattle.entities.specs.Run.{blank_node}
use Rattle.indices.proofs.index_at.Invariants.{start, over, here, on}
use Rattle.indices.proofs.index_at.Goals as goal

ruleset laws = (start, over, here, on, rules)

pub returns-then-run-i : goal.returns-then-run-i
unfolding blank_node
returns-then-run-i c = search laws

pub loop-i-preserved : goal.loop-i-preserved
unfolding blank_node
loop-i-preserved c = search laws

pub returns : goal.returns
returns c = search laws
