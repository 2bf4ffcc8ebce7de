-- A search along the records.
use borrow.Author.Rules.{rules}
use Rattle.mover.proofs.loses_more.Invariants.{start, over, inside, here, on}
use Rattle.mover.proofs.loses_more.Goals as goal

ruleset laws = (start, over, inside, here, on, rules)

pub returns-then-has_more : goal.returns-then-has_more
returns-then-has_more c = search laws

pub loop-i-preserved : goal.loop-i-preserved
loop-i-preserved c = search laws

pub returns : goal.returns
returns c = search laws
