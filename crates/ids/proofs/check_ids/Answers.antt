-- A search for the first entity that breaks rule 10, by the laws of such a search over any IDs.
use borrow.Author.Rules.{rules}
use Rattle.entities.specs.Run.{blank_node}
use Rattle.ids.proofs.check_ids.Invariants.{start, over, zero_id, twice, on}
use Rattle.ids.proofs.check_ids.Goals as goal
use Rattle.ids.proofs.check_ids.Goals.{then-id-eq0-via-then-id-eq0, then-id-eq0-via-else-id-eq0+then-borne-id}

ruleset laws = (start, over, zero_id, twice, on, rules)

pub loop-node-init : goal.loop-node-init
loop-node-init c = search laws

pub returns-then-id-eq0 : goal.returns-then-id-eq0
unfolding blank_node
returns-then-id-eq0 c = elim c.then-id-eq0.branch [ then-id-eq0-via-then-id-eq0 w ↦ search laws | then-id-eq0-via-else-id-eq0+then-borne-id w ↦ search laws ]

pub loop-node-preserved : goal.loop-node-preserved
unfolding blank_node
loop-node-preserved c = search laws

pub returns : goal.returns
returns c = search laws
