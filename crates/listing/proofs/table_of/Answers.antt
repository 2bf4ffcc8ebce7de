-- One more control in its place, or none past the last.
use borrow.Author.Rules.{rules}
use Rattle.listing.proofs.table_of.Invariants.{put_here, past_end}
use Rattle.listing.proofs.table_of.Goals as goal
use Rattle.listing.proofs.table_of.Goals.{then-i-lt-CONTROLS, else-i-lt-CONTROLS}

ruleset laws = (put_here, past_end, rules)

pub loop-i-preserved : goal.loop-i-preserved
loop-i-preserved c = elim c.if-i-lt-CONTROLS.branch [ then-i-lt-CONTROLS w ↦ search laws | else-i-lt-CONTROLS w ↦ search laws ]
