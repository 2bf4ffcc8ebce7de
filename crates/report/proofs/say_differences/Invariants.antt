-- Each difference has a higher ID than the one before it.
use Rattle.std.proofs.Common.{◌-◌}
use Rattle.differences.specs.Lines.{last_id}
use Rattle.report.proofs.say_differences.Given as goal

abbrev pub decreases-loop-difference : goal.decreases-loop-difference
decreases-loop-difference g l = last_id - l.above
