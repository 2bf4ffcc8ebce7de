use Rattle.sweep3.specs.Sweep.{Sweeping}
use Rattle.sweep3.proofs.sweep.Given as goal

abbrev pub invariant-loop-node : goal.invariant-loop-node
invariant-loop-node l = Sweeping l.config l.fn.run l.given l.node-index
