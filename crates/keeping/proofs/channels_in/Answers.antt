-- A loop over the pins: the sum so far, and what is left to add, make the whole.
use borrow.Author.Rules.{rules}
use Rattle.keeping.proofs.channels_in.Invariants.{start, last, fits, on}
use Rattle.keeping.proofs.channels_in.Goals as goal

ruleset laws = (start, last, fits, on, rules)

pub loop-id-preserved : goal.loop-id-preserved
loop-id-preserved c = search laws

pub returns : goal.returns
returns c = search laws
