-- closest_setting: a legal range has MIN ≤ MAX and a step, and its closest height is below the span.
use Rattle.setting.proofs.Exits.{min_max, res_some, closest_below, height_short}
use borrow.Author.Rules.{rules}
use Rattle.setting.proofs.closest_setting.Goals as goal

ruleset laws = (min_max, res_some, closest_below, height_short, rules)

pub closest_height-requires : goal.closest_height-requires
closest_height-requires c = search laws

pub number_at-requires : goal.number_at-requires
number_at-requires c = search laws
