use Rattle.address.proofs.Seeking.{Seeking}
use Rattle.address.proofs.seek.Given as goal

abbrev pub invariant-loop-index : goal.invariant-loop-index
invariant-loop-index l = Seeking l.fn.table l.unit l.channel l.selector l.tops l.seats l.rising l.index
