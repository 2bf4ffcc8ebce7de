-- Each stretch is put behind the one before: together they are one stretch.
use borrow.Author.Rules.{rules}
use Rattle.laying.specs.LayingLaws.{pasted_three}
use Rattle.laying.proofs.put_three.Goals as goal

ruleset laws = (pasted_three, rules)

pub returns : goal.returns
returns c = search laws
