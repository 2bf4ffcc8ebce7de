-- The loop has put the first i records in front, and behind them the sheet is as it stood.
use borrow.Author.Rules.{rules}
use Rattle.records.proofs.show.Invariants.{no_room, start, long, next_room, below, place_fits, on, over}
use Rattle.records.proofs.show.Goals as goal

ruleset laws = (no_room, start, next_room, below, place_fits, on, over, long, rules)

pub returns-then-not-has_room : goal.returns-then-not-has_room
returns-then-not-has_room c = search laws

pub loop-i-init : goal.loop-i-init
loop-i-init c = search laws

pub loop-i-preserved : goal.loop-i-preserved
loop-i-preserved c = search laws

pub returns : goal.returns
returns c = search laws
