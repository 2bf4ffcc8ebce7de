-- A merge by rising ID: no ID up to the one come to has a line above the number asked for. The lowest ID that is left on either side is the next
-- to be looked at; where it stands on one side only, it cannot stand on the other, whose lowest is higher.
use borrow.Author.Rules.{rules}
use Rattle.differences.proofs.next.Invariants.{left_small, left_only_lem, right_small, right_only_lem, over, small, differ, same}
use Rattle.differences.proofs.next.Goals as goal

ruleset fits = (left_small, right_small, small, rules)

pub returns-then-l-r : goal.returns-then-l-r
returns-then-l-r c = search left_only_lem

pub returns-then-r-l : goal.returns-then-r-l
returns-then-r-l c = search right_only_lem

pub returns-then-l-eq-NO_ID : goal.returns-then-l-eq-NO_ID
returns-then-l-eq-NO_ID c = search over

pub returns-then-mask-ne0 : goal.returns-then-mask-ne0
returns-then-mask-ne0 c = search differ

pub loop-r-preserved : goal.loop-r-preserved
loop-r-preserved c = search same
