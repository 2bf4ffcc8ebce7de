-- Each number stands at its offset of the layout; the masks from 6, up to the name.
use borrow.Author.Rules.{rules}
use Rattle.fields.specs.ListedLaws.{feature_found}
use Rattle.fields.proofs.read_feature.Goals as goal

ruleset laws = (feature_found, rules)

pub returns : goal.returns
returns c = search laws
