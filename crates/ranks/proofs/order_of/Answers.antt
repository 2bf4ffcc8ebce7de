-- Passes, until one adds nothing or all are in: the laws of the loop are in specs/Ordering.
use borrow.Author.Rules.{rules}
use Rattle.entities.specs.Run.{blank_node}
use Rattle.ranks.specs.Ordering.{ordering_start, ordering_full}
use Rattle.ranks.proofs.order_of.Invariants.{next, still, falls, room, offset_fits, count_fits, joined, left}
use Rattle.ranks.proofs.order_of.Goals as goal
use Rattle.ranks.proofs.order_of.Goals.{then-may_join, else-may_join}

ruleset laws = (ordering_start, ordering_full, next, still, falls, room, offset_fits, count_fits, joined, left, rules)

pub loop-count-init : goal.loop-count-init
loop-count-init c = search laws

pub offset_bounds-nodes-count : goal.offset_bounds-nodes-count
unfolding blank_node
offset_bounds-nodes-count c = search laws

pub bounds-nodes-count : goal.bounds-nodes-count
unfolding blank_node
bounds-nodes-count c = search laws

pub overflow_add-count : goal.overflow_add-count
unfolding blank_node
overflow_add-count c = search laws

pub loop-node-preserved : goal.loop-node-preserved
unfolding blank_node
loop-node-preserved c = elim c.if-may_join.branch [ then-may_join w ↦ search laws | else-may_join w ↦ search laws ]

pub returns-then-count-before : goal.returns-then-count-before
returns-then-count-before c = search laws

pub loop-count-smaller : goal.loop-count-smaller
loop-count-smaller c = search laws

pub loop-count-preserved : goal.loop-count-preserved
loop-count-preserved c = search laws

pub returns : goal.returns
returns c = search laws
