-- closest_height meets its contract: one law of Exits for each way out, and for each difference that must not fall below 0.
use Rattle.setting.proofs.Exits.{at_least, low_below, low_fits, low_under, high_over, low_last, high_closer, low_closer}
use borrow.Author.Rules.{rules}
use Rattle.setting.proofs.closest_height.Goals as goal

ruleset laws = (at_least, low_below, low_fits, low_under, high_over, low_last, high_closer, low_closer, rules)

pub returns-then-x-least : goal.returns-then-x-least
returns-then-x-least c = search laws

pub overflow_add-low : goal.overflow_add-low
overflow_add-low c = search laws

pub overflow_sub-most : goal.overflow_sub-most
overflow_sub-most c = search laws

pub returns-then-most-low : goal.returns-then-most-low
returns-then-most-low c = search laws

pub overflow_sub-high : goal.overflow_sub-high
overflow_sub-high c = search laws

pub overflow_sub-x : goal.overflow_sub-x
overflow_sub-x c = search laws

pub returns-then-high-x : goal.returns-then-high-x
returns-then-high-x c = search laws

pub returns-else-high-x : goal.returns-else-high-x
returns-else-high-x c = search laws
