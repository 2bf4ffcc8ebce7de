-- Each number stands at its offset of the layout; the sources from 5.
use borrow.Author.Rules.{rules}
use Rattle.fields.specs.ListedLaws.{selector_found}
use Rattle.fields.proofs.read_selector.Goals as goal

ruleset laws = (selector_found, rules)

pub returns : goal.returns
returns c = search laws
