-- Each number stands at its offset of the layout.
use borrow.Author.Rules.{rules}
use Rattle.fields.specs.ListedLaws.{output_found}
use Rattle.fields.proofs.read_output.Goals as goal

ruleset laws = (output_found, rules)

pub returns : goal.returns
returns c = search laws
