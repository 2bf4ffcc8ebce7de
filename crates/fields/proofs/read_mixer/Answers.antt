-- Each number stands at its offset of the layout; the sources from 5, the control bytes behind the cluster, up to the name.
use borrow.Author.Rules.{rules}
use Rattle.fields.specs.ListedLaws.{mixer_found}
use Rattle.fields.proofs.read_mixer.Goals as goal

ruleset laws = (mixer_found, rules)

pub returns : goal.returns
returns c = search laws
