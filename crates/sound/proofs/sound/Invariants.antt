use Rattle.sound.specs.Rising.{TopsAbove}
use Rattle.sound.proofs.sound.Given as goal

abbrev pub invariant-loop-control : goal.invariant-loop-control
invariant-loop-control l = TopsAbove l.fn.table l.tops l.control-index
