-- One way out for each case that the layout's test tells.
use borrow.Author.Rules.{rules}
use Rattle.fields.specs.ListedLaws.{found_unknown, found_input, found_output, found_mixer, found_selector, found_feature, mixer_some, feature_some}
use Rattle.fields.proofs.read.Goals as goal

ruleset laws = (found_unknown, found_input, found_output, found_mixer, found_selector, found_feature, mixer_some, feature_some, rules)

pub read_mixer-requires : goal.read_mixer-requires
read_mixer-requires c = search laws

pub read_feature-requires : goal.read_feature-requires
read_feature-requires c = search laws

pub returns-in-Unknown : goal.returns-in-Unknown
returns-in-Unknown c = search laws

pub returns-in-Input : goal.returns-in-Input
returns-in-Input c = search laws

pub returns-in-Output : goal.returns-in-Output
returns-in-Output c = search laws

pub returns-in-Mixer : goal.returns-in-Mixer
returns-in-Mixer c = search laws

pub returns-in-Selector : goal.returns-in-Selector
returns-in-Selector c = search laws

pub returns-in-Feature : goal.returns-in-Feature
returns-in-Feature c = search laws
