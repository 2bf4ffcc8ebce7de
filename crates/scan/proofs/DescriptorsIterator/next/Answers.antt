-- Where no descriptor stands nothing is left; else the one that stands here comes, and those behind it are left.
use Rattle.std.proofs.Common.{rules}
use Rattle.scan.specs.Search.{ordered, inside}
use Rattle.scan.specs.Placed.{ahead_none, ahead_more, ahead_fewer}
use Rattle.scan.proofs.DescriptorsIterator.next.Goals as goal

ruleset laws = (ahead_none, ahead_more, ahead_fewer, ordered, inside, rules)

pub returns-then-end-at-clause-steps : goal.returns-then-end-at-clause-steps
returns-then-end-at-clause-steps c = search laws

pub slice_bounds-result-count : goal.slice_bounds-result-count
slice_bounds-result-count c = search laws

pub slice_bounds-result-start : goal.slice_bounds-result-start
slice_bounds-result-start c = search laws

pub slice_bounds-result-end : goal.slice_bounds-result-end
slice_bounds-result-end c = search laws

pub returns-clause-steps : goal.returns-clause-steps
returns-clause-steps c = search laws

pub returns-clause-goes : goal.returns-clause-goes
returns-clause-goes c = search laws
