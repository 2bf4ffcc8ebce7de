-- The loop has put the first i records in front, and behind them the room is as it stood.
use borrow.Author.Rules.{rules}
use Rattle.mover.proofs.put_records.Invariants.{start, long, over, source_inside, target_inside, source_fits, target_fits, source_end, target_end, on}
use Rattle.mover.proofs.put_records.Goals as goal

ruleset laws = (start, long, over, source_inside, target_inside, source_fits, target_fits, source_end, target_end, on, rules)

pub loop-i-init : goal.loop-i-init
loop-i-init c = search laws

pub loop-i-preserved : goal.loop-i-preserved
loop-i-preserved c = search laws
