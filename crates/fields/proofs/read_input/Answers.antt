-- Each number stands at its offset of the layout.
use borrow.Author.Rules.{rules}
use Rattle.fields.specs.ListedLaws.{input_found}
use Rattle.fields.proofs.read_input.Goals as goal

ruleset laws = (input_found, rules)

pub returns : goal.returns
returns c = search laws
