-- Head, sources, cluster, control bytes and name are the layout's bytes.
use borrow.Author.Rules.{rules}
use Rattle.laying.specs.LayingLaws.{mixer_pasted}
use Rattle.laying.proofs.put_mixer.Goals as goal

ruleset laws = (mixer_pasted, rules)

pub returns : goal.returns
returns c = search laws
