-- A walk with nothing lent tells all ways as any other does.
use borrow.Author.Rules.{rules}
use Rattle.upstream.specs.ListingLaws.{counted}
use Rattle.upstream.proofs.count.Goals as goal

ruleset laws = (counted, rules)

pub returns : goal.returns
returns c = search laws
